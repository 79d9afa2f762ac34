use Rattle.std.proofs.Common.{◌≡◌, ℕ, List, [], ◌∷◌, ◌++◌, ap, ◌∙◌, refl, arith}
use Rattle.byteorder.specs.Endian.{big_bytes}
use Rattle.recorder.proofs.Written.{put_behind}
use Rattle.recorder.proofs.filer_writer.ahead_octets.Goals as goal

pub returns : goal.returns
returns c =
    let k = c.args.kind in
    let front = c.copy_from_slice.new.self in
    let behind = c.copy_from_slice-2.new.self in
    let first : front ≡ k ∷ (big_bytes 8 c.args.number ++ c.args.frame.now) = c.copy_from_slice.ensures.after ∙ c.filed_octets.ensures in
    put_behind 42 8 front (k ∷ k ∷ k ∷ k ∷ k ∷ k ∷ k ∷ k ∷ []) behind (omega arith) refl
    ∙ ap (λ (l : List ℕ). l ++ behind) first ∙ ap (λ (l : List ℕ). (k ∷ (big_bytes 8 c.args.number ++ c.args.frame.now)) ++ l) (c.copy_from_slice-2.ensures.after ∙ c.write_u64.ensures)
