use Rattle.std.proofs.Common.{◌≡◌, ◌≢◌, ◌∙◌, ◌≤◌, sym, ap, ℕ, subst, Ok, Err, MatchResult, Result}
use Rattle.ring_core.specs.declared.words.SlotWord.{SlotWord}
use Rattle.playout.specs.declared.reply.FileReply.TheVariants.{Accepted}
use Rattle.step_table.specs.Packed.{pack_slot, Fits}
use Rattle.step_table.specs.Kinds.{StepKind, told, word_read}
use Rattle.slot_ring.specs.Kept.{reply_after}
use Rattle.slot_ring.proofs.Grows.{filed_by}
use Rattle.slot_ring.proofs.Filings.{flies, after_accept, after_refuse}
use Rattle.slot_ring.proofs.ring.SlotRing.file_as.Goals as goal

ok_found : (r : Result ℕ ℕ) (x old : ℕ) → r ≡ Ok x → MatchResult r (λ y. y ≡ old) (λ y. y ≢ old) → word_read r ≡ old
ok_found r x old is m = ap word_read is ∙ subst (λ (z : Result ℕ ℕ). MatchResult z (λ y. y ≡ old) (λ y. y ≢ old)) is m

err_found : (r : Result ℕ ℕ) (x old : ℕ) → r ≡ Err x → MatchResult r (λ y. y ≡ old) (λ y. y ≢ old) → word_read r ≢ old
err_found r x old is m e = subst (λ (z : Result ℕ ℕ). MatchResult z (λ y. y ≡ old) (λ y. y ≢ old)) is m (sym (ap word_read is) ∙ e)

pub invariant_of-pass-in-Ok : goal.invariant_of-pass-in-Ok
invariant_of-pass-in-Ok g c =
    let me = c.pass.inside.seat.me in
    let tells = subst (λ (m : StepKind). told m me c.load-seen.result c.load-seen.new.seat.me) c.requires.kind c.load-seen.ensures.told in
    let f = flies me _ _ _ c.args.number _ _ _ _ c.args.frame.now c.pass.invariant tells c.number_of-ahead.ensures c.cell_of-cell.ensures.slot c.is_filled.ensures c.if-ahead-number.false c.if-ahead-number-2.false c.if-is_filled.false in
    (after_accept me c.load-seen.new.seat.me c.cell.new.seat.me c.compare_exchange.new.seat.me c.pass.inside.who c.pass.inside.spare c.args.number c.cell_of-cell.result _ c.args.frame.now f.0 c.cell.ensures.new c.compare_exchange.ensures.told
    (ok_found _ _ _ c.in-Ok.is c.compare_exchange.ensures.found ∙ f.1)).filers

pub returns-in-Ok-clause-filed : goal.returns-in-Ok-clause-filed
returns-in-Ok-clause-filed g c =
    let me = c.pass.inside.seat.me in
    let tells = subst (λ (m : StepKind). told m me c.load-seen.result c.load-seen.new.seat.me) c.requires.kind c.load-seen.ensures.told in
    let f = flies me _ _ _ c.args.number _ _ _ _ c.args.frame.now c.pass.invariant tells c.number_of-ahead.ensures c.cell_of-cell.ensures.slot c.is_filled.ensures c.if-ahead-number.false c.if-ahead-number-2.false c.if-is_filled.false in
    let r = after_accept me c.load-seen.new.seat.me c.cell.new.seat.me c.compare_exchange.new.seat.me c.pass.inside.who c.pass.inside.spare c.args.number c.cell_of-cell.result _ c.args.frame.now f.0 c.cell.ensures.new c.compare_exchange.ensures.told
    (ok_found _ _ _ c.in-Ok.is c.compare_exchange.ensures.found ∙ f.1) in
    filed_by c.pass.inside.seat.table_id _ me c.compare_exchange.new.seat.me c.args.pass.now c.args.number c.args.frame.now Accepted c.pass.inside.who c.cell_of-cell.result r (c.compare_exchange.ensures.seat.0 ∙ (c.cell.ensures.seat.0 ∙ c.load-seen.ensures.seat.0)) c.pass.view_is

pub invariant_of-pass-in-Err : goal.invariant_of-pass-in-Err
invariant_of-pass-in-Err g c =
    let me = c.pass.inside.seat.me in
    let tells = subst (λ (m : StepKind). told m me c.load-seen.result c.load-seen.new.seat.me) c.requires.kind c.load-seen.ensures.told in
    let f = flies me _ _ _ c.args.number _ _ _ _ c.args.frame.now c.pass.invariant tells c.number_of-ahead.ensures c.cell_of-cell.ensures.slot c.is_filled.ensures c.if-ahead-number.false c.if-ahead-number-2.false c.if-is_filled.false in
    let says : (w : SlotWord) → word_read c.compare_exchange.result ≡ pack_slot w → Fits w → c.args.number ≤ w.number → c.reply_to.result ≡ reply_after w c.args.number = λ w is small le. c.reply_to.ensures w (sym (ap word_read c.in-Err.is) ∙ is) small le in
    (after_refuse me c.load-seen.new.seat.me c.cell.new.seat.me c.compare_exchange.new.seat.me c.pass.inside.who c.pass.inside.spare c.args.number c.cell_of-cell.result _ c.args.frame.now c.reply_to.result f.0 c.cell.ensures.new c.compare_exchange.ensures.told
    (λ hit. err_found _ _ _ c.in-Err.is c.compare_exchange.ensures.found (hit ∙ sym f.1)) says).filers

pub returns-in-Err-clause-filed : goal.returns-in-Err-clause-filed
returns-in-Err-clause-filed g c =
    let me = c.pass.inside.seat.me in
    let tells = subst (λ (m : StepKind). told m me c.load-seen.result c.load-seen.new.seat.me) c.requires.kind c.load-seen.ensures.told in
    let f = flies me _ _ _ c.args.number _ _ _ _ c.args.frame.now c.pass.invariant tells c.number_of-ahead.ensures c.cell_of-cell.ensures.slot c.is_filled.ensures c.if-ahead-number.false c.if-ahead-number-2.false c.if-is_filled.false in
    let says : (w : SlotWord) → word_read c.compare_exchange.result ≡ pack_slot w → Fits w → c.args.number ≤ w.number → c.reply_to.result ≡ reply_after w c.args.number = λ w is small le. c.reply_to.ensures w (sym (ap word_read c.in-Err.is) ∙ is) small le in
    let r = after_refuse me c.load-seen.new.seat.me c.cell.new.seat.me c.compare_exchange.new.seat.me c.pass.inside.who c.pass.inside.spare c.args.number c.cell_of-cell.result _ c.args.frame.now c.reply_to.result f.0 c.cell.ensures.new c.compare_exchange.ensures.told
    (λ hit. err_found _ _ _ c.in-Err.is c.compare_exchange.ensures.found (hit ∙ sym f.1)) says in
    filed_by c.pass.inside.seat.table_id _ me c.compare_exchange.new.seat.me c.args.pass.now c.args.number c.args.frame.now c.reply_to.result c.pass.inside.who c.pass.inside.spare r (c.compare_exchange.ensures.seat.0 ∙ (c.cell.ensures.seat.0 ∙ c.load-seen.ensures.seat.0)) c.pass.view_is
