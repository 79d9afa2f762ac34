-- The events of a packet's frames, one more at a time.
use Rattle.std.proofs.Common.{◌≡◌, ℕ, zero, suc, ◌+◌, ◌-◌, ◌/◌, ◌<◌, List, [], ◌∷◌, ◌++◌, length, drop, slice_get, Option, Some, sym, ap, subst, ◌∙◌, append_assoc, append-nil, arith}
use Rattle.std.specs.Io.KnownBytes.{Appends}
use Rattle.std.proofs.KnownBytes.{Appends-nil, Appends-trans}
use Rattle.gate_io.specs.Flow.{AppendsPart}
use Rattle.gate_io.specs.FlowLaws.{AppendsPart-after, AppendsPart-longer}
use Rattle.playout.specs.declared.reply.FileReply.{FileReply}
use Rattle.playout.specs.History.{ReplyFits}
use Rattle.recorder.specs.declared.events.FilerEvent.TheVariants as event
use Rattle.recorder.specs.Filing.{filer_event_text}
use Rattle.rtp_codec.specs.Packets.{frame_at}
use Rattle.filer.specs.Takes.{frames_from, frames_of}
use Rattle.filer.specs.Journals.{RepliesFit, file_events, text_of}

-- the octets of the events from the frame at place i on
abbrev rest_text : ℕ → List ℕ → List FileReply → ℕ → List ℕ
rest_text first payload replies i = text_of (file_events (first + i) (frames_from i (length payload / 33 - i) payload) (drop i replies))

-- the events of the first i frames were given
pub record Writing (old now : Option (List ℕ)) (first : ℕ) (payload : List ℕ) (replies : List FileReply) (i : ℕ) : Type 0 where
  pub done : List ℕ
  pub given : Appends old now done
  pub all : text_of (file_events first (frames_of payload) replies) ≡ done ++ rest_text first payload replies i
  pub fits : RepliesFit (first + i) (drop i replies)

drop-at : (xs : List FileReply) (i : ℕ) (x : FileReply) → slice_get xs i ≡ Some x → drop i xs ≡ x ∷ drop (suc i) xs
drop-at [] i x e = absurd (cc)
drop-at (y ∷ ys) zero x e = let h : y ≡ x = cc in ap (λ (z : FileReply). z ∷ ys) h
drop-at (y ∷ ys) (suc i) x e = drop-at ys i x e

frames-at : (i : ℕ) (payload : List ℕ) → i < length payload / 33 → frames_from i (length payload / 33 - i) payload ≡ frame_at payload i ∷ frames_from (suc i) (length payload / 33 - suc i) payload
frames-at i payload few =
    let e : length payload / 33 - i ≡ suc (length payload / 33 - suc i) = count (length payload / 33) i few in
    ap (λ (k : ℕ). frames_from i k payload) e
  where
    count : (n i : ℕ) → i < n → n - i ≡ suc (n - suc i)
    count n i h = omega arith

-- the event at place i, and those behind it
rest-at : (first : ℕ) (payload : List ℕ) (replies : List FileReply) (i : ℕ) (r : FileReply) → i < length payload / 33 → slice_get replies i ≡ Some r
    → rest_text first payload replies i ≡ filer_event_text (event.File (first + i) (frame_at payload i) r) ++ rest_text first payload replies (suc i)
rest-at first payload replies i r few e =
    let s : first + suc i ≡ suc (first + i) = omega arith in
    ap (λ (rs : List FileReply). text_of (file_events (first + i) (frames_from i (length payload / 33 - i) payload) rs)) (drop-at replies i r e)
    ∙ ap (λ (fs : List (List ℕ)). text_of (file_events (first + i) fs (r ∷ drop (suc i) replies))) (frames-at i payload few)
    ∙ ap (λ (k : ℕ). filer_event_text (event.File (first + i) (frame_at payload i) r) ++ text_of (file_events k (frames_from (suc i) (length payload / 33 - suc i) payload) (drop (suc i) replies))) (sym s)

pub writing-none : (g : Option (List ℕ)) (first : ℕ) (payload : List ℕ) (replies : List FileReply) → RepliesFit first replies → Writing g g first payload replies 0
writing-none g first payload replies fits =
    let z : first + 0 ≡ first = omega arith in
    let n : length payload / 33 - 0 ≡ length payload / 33 = omega arith in
    record {
      done = [];
      given = Appends-nil g;
      all = ap (λ (k : ℕ). text_of (file_events k (frames_of payload) replies)) (sym z) ∙ ap (λ (k : ℕ). text_of (file_events (first + 0) (frames_from 0 k payload) replies)) (sym n);
      fits = subst (λ (k : ℕ). RepliesFit k replies) (sym z) fits;
    }

pub writing-fits : (old now : Option (List ℕ)) (first : ℕ) (payload : List ℕ) (replies : List FileReply) (i : ℕ) (r : FileReply)
    → Writing old now first payload replies i → slice_get replies i ≡ Some r → ReplyFits (first + i) r
writing-fits old now first payload replies i r w e =
    let h : RepliesFit (first + i) (r ∷ drop (suc i) replies) = subst (RepliesFit (first + i)) (drop-at replies i r e) w.fits in
    h.0

pub writing-more : (old now after : Option (List ℕ)) (first : ℕ) (payload : List ℕ) (replies : List FileReply) (i : ℕ) (r : FileReply)
    → Writing old now first payload replies i → i < length payload / 33 → slice_get replies i ≡ Some r → Appends now after (filer_event_text (event.File (first + i) (frame_at payload i) r))
    → Writing old after first payload replies (i + 1)
writing-more old now after first payload replies i r w few e given =
    let text = filer_event_text (event.File (first + i) (frame_at payload i) r) in
    let s : first + suc i ≡ suc (first + i) = omega arith in
    let one : suc i ≡ i + 1 = omega arith in
    let h : RepliesFit (first + i) (r ∷ drop (suc i) replies) = subst (RepliesFit (first + i)) (drop-at replies i r e) w.fits in
    let more : Writing old after first payload replies (suc i) = record {
      done = w.done ++ text;
      given = Appends-trans old now after w.done text w.given given;
      all = w.all ∙ ap (λ (l : List ℕ). w.done ++ l) (rest-at first payload replies i r few e) ∙ sym (append_assoc w.done text (rest_text first payload replies (suc i)));
      fits = subst (λ (k : ℕ). RepliesFit k (drop (suc i) replies)) (sym s) h.1;
    } in
    subst (Writing old after first payload replies) one more

pub writing-part : (old now after : Option (List ℕ)) (first : ℕ) (payload : List ℕ) (replies : List FileReply) (i : ℕ) (r : FileReply)
    → Writing old now first payload replies i → i < length payload / 33 → slice_get replies i ≡ Some r → AppendsPart now after (filer_event_text (event.File (first + i) (frame_at payload i) r))
    → AppendsPart old after (text_of (file_events first (frames_of payload) replies))
writing-part old now after first payload replies i r w few e part =
    let text = filer_event_text (event.File (first + i) (frame_at payload i) r) in
    let all : text_of (file_events first (frames_of payload) replies) ≡ (w.done ++ text) ++ rest_text first payload replies (suc i)
    = w.all ∙ ap (λ (l : List ℕ). w.done ++ l) (rest-at first payload replies i r few e) ∙ sym (append_assoc w.done text (rest_text first payload replies (suc i))) in
    subst (AppendsPart old after) (sym all)
    (AppendsPart-longer old after (w.done ++ text) (rest_text first payload replies (suc i)) (AppendsPart-after old now after w.done text w.given part))

pub writing-all : (old now : Option (List ℕ)) (first : ℕ) (payload : List ℕ) (replies : List FileReply) (i : ℕ)
    → Writing old now first payload replies i → i ≡ length payload / 33 → Appends old now (text_of (file_events first (frames_of payload) replies))
writing-all old now first payload replies i w e =
    let none : length payload / 33 - i ≡ 0 = omega arith in
    let all : text_of (file_events first (frames_of payload) replies) ≡ w.done
    = w.all ∙ ap (λ (k : ℕ). w.done ++ text_of (file_events (first + i) (frames_from i k payload) (drop i replies))) none ∙ append-nil w.done in
    subst (Appends old now) (sym all) w.given
