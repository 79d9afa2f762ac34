use Rattle.std.proofs.Common.{◌≡◌, ◌+◌, min, refl, ap, Some, if◌then◌else◌}
use Rattle.frame_codec.specs.declared.item.Item.TheVariants.{Idle, Frame, Erasure}
use Rattle.rand_chacha.specs.ChaCha.{next_word}
use Rattle.substitution.specs.declared.heard.Heard.TheVariants.{Nothing, Speech}
use Rattle.substitution.specs.Covering.{is_muted, covered}
use Rattle.substitution.specs.Masking.{Kept}
use Rattle.substitution.proofs.MaskLaws.{Masks-steps}
use Rattle.substitution.proofs.masker.Masker.step.Goals as goal

pub returns-in-Idle-clause-goes_on : goal.returns-in-Idle-clause-goes_on
returns-in-Idle-clause-goes_on c = rw c.in-Idle.is (Masks-steps c.args.self.now c.args.self.now Idle Nothing (refl, refl))

pub returns-in-Frame-clause-goes_on : goal.returns-in-Frame-clause-goes_on
returns-in-Frame-clause-goes_on c =
    let old : Kept = record { last = c.self.inside.last; erasures = c.self.inside.erasures; words = c.self.inside.words } in
    let new : Kept = record { last = Some c.unpack-params.result; erasures = 0; words = c.self.inside.words } in
    rw (c.in-Frame.is, ← c.self.view_is)
    (Masks-steps old new (Frame c.in-Frame.frame) (Speech c.unpack-params.result)
    (c.unpack-params.result, (c.unpack-params.ensures.spelled, c.unpack-params.ensures.widths), refl, refl))

pub returns-in-Erasure-clause-goes_on : goal.returns-in-Erasure-clause-goes_on
returns-in-Erasure-clause-goes_on c =
    let old : Kept = record { last = c.self.inside.last; erasures = c.self.inside.erasures; words = c.self.inside.words } in
    let new : Kept = record { last = c.self.inside.last; erasures = c.saturating_add-self-inside.result; words = c.cover.new.words } in
    let count : c.saturating_add-self-inside.result ≡ min (old.erasures + 1) 255 = c.saturating_add-self-inside.ensures in
    let params : c.cover.result ≡ covered old.last (min (old.erasures + 1) 255) (next_word 4 old.words).0 = rw count at c.cover.ensures.params in
    let words : c.cover.new.words ≡ (if is_muted old.last (min (old.erasures + 1) 255) then (next_word 4 old.words).1 else old.words) = rw count at c.cover.ensures.words in
    rw (c.in-Erasure.is, ← c.self.view_is)
    (Masks-steps old new Erasure (Speech c.cover.result) (ap Speech params, rw (count, words) refl))
