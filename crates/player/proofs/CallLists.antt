-- The calls of beats, one beat after the other.
use Rattle.std.proofs.Common.{◌≡◌, ℕ, zero, suc, ◌+◌, ◌<◌, Bool, List, [], ◌∷◌, ◌++◌, length, take, drop, get_or, Option, refl, sym, ap, subst, ◌∙◌, append_assoc, append-nil, arith}
use Rattle.std.specs.List.{flat_map, AllByRecursion}
use Rattle.std.specs.Io.KnownBytes.{Appends}
use Rattle.std.proofs.lemmas.List.Concat.{flat_map-append}
use Rattle.std.proofs.lemmas.List.Sums.{fold-append}
use Rattle.gate_io.specs.Flow.{AppendsPart}
use Rattle.gate_io.specs.FlowLaws.{AppendsPart-after, AppendsPart-longer}
use Rattle.frame_codec.specs.declared.item.Item.{Item}
use Rattle.playout.specs.declared.call.Call.{Call}
use Rattle.playout.specs.History.{Chained, moves}
use Rattle.recorder.specs.declared.tally.PlayTally.{PlayTally}
use Rattle.recorder.specs.Play.{call_text}
use Rattle.recorder.specs.Tallies.{call_items, play_tally}
use Rattle.recorder.specs.TallyLaws.{play_tally-more}
use Rattle.player.specs.Beats.{AreBeats, CanBeTold, GivesOne, IsBeat, all_counted, held_after, held_by, opened_after, opened_by}
use Rattle.player.specs.BeatLaws.{moves-append}
use Rattle.player.specs.Whole.{items_in, text_in}

pub Chained-append : {S : Type 0} (did : S → Call → S → Type 0) (a b c : S) (xs ys : List Call) → Chained did a xs b → Chained did b ys c → Chained did a (xs ++ ys) c
Chained-append {S} did a b c [] ys p q = subst (λ (s : S). Chained did s ys c) (sym p) q
Chained-append {S} did a b c (x ∷ xs) ys p q = (p.0, p.1, Chained-append did p.0 b c xs ys p.2 q)

-- where a side stands behind more calls
pub moves-more : (from mid to : ℕ) (xs ys : List Call) → mid ≡ from + moves xs → to ≡ mid + moves ys → to ≡ from + moves (xs ++ ys)
moves-more from mid to xs ys p q = omega (arith, moves-append xs ys)

pub items-more : (calls more : List Call) (item : Item) → items_in more ≡ item ∷ [] → items_in (calls ++ more) ≡ items_in calls ++ item ∷ []
items-more calls more item is = flat_map-append call_items calls more ∙ ap (λ (l : List Item). items_in calls ++ l) is

pub text-more : (calls more : List Call) → text_in (calls ++ more) ≡ text_in calls ++ text_in more
text-more calls more = flat_map-append call_text calls more

-- the journal can tell more calls
pub told-more : (g : ℕ) (xs ys : List Call) → AllByRecursion (CanBeTold g) xs → AllByRecursion (CanBeTold g) ys → AllByRecursion (CanBeTold g) (xs ++ ys)
told-more g [] ys p q = q
told-more g (x ∷ xs) ys p q = (p.0, told-more g xs ys p.1 q)

-- more calls are counted behind those that were
pub tally-more : (calls more : List Call) → all_counted (play_tally calls) more ≡ play_tally (calls ++ more)
tally-more calls [] = ap play_tally (sym (append-nil calls))
tally-more calls (c ∷ cs) =
    ap (λ (t : PlayTally). all_counted t cs) (sym (play_tally-more calls c)) ∙ tally-more (calls ++ c ∷ []) cs ∙ ap play_tally (append_assoc calls (c ∷ []) cs)

-- what the calls give, at one of them
at-call : {B : Type 0} (f : Call → List B) (calls : List Call) (k : ℕ) (c : Call) → k < length calls → c ≡ get_or calls k c
    → flat_map f calls ≡ flat_map f (take k calls) ++ (f c ++ flat_map f (drop (suc k) calls))
at-call f [] k c low is = absurd (omega (arith, low))
at-call {B} f (x ∷ xs) zero c low is = ap (λ (y : Call). f y ++ flat_map f xs) (sym is)
at-call {B} f (x ∷ xs) (suc k) c low is =
    ap (λ (l : List B). f x ++ l) (at-call f xs k c (omega (arith, low)) is) ∙ sym (append_assoc (f x) (flat_map f (take k xs)) (f c ++ flat_map f (drop (suc k) xs)))

-- the first item that is given, where they give one
pub first-item : (calls : List Call) (k : ℕ) (c : Call) (item : Item) → k < length calls → c ≡ get_or calls k c → items_in (take k calls) ≡ [] → call_items c ≡ item ∷ [] → GivesOne calls
    → items_in calls ≡ item ∷ []
first-item calls k c item low is before gives (one, all) =
    let rest = items_in (drop (suc k) calls) in
    let here : items_in calls ≡ item ∷ rest = at-call call_items calls k c low is ∙ (λ i. before i ++ (gives i ++ rest)) in
    let last : rest ≡ [] = ap (drop 1) (sym here ∙ all) in
    here ∙ ap (λ (l : List Item). item ∷ l) last

-- the calls before one were told, and a front of that one
pub told-front : (a b c : Option (List ℕ)) (calls : List Call) (k : ℕ) (x : Call) → k < length calls → x ≡ get_or calls k x → Appends a b (text_in (take k calls)) → AppendsPart b c (call_text x)
    → AppendsPart a c (text_in calls)
told-front a b c calls k x low is before part =
    subst (AppendsPart a c) (sym (at-call call_text calls k x low is))
    (AppendsPart-after a b c (text_in (take k calls)) (call_text x ++ text_in (drop (suc k) calls)) before (AppendsPart-longer b c (call_text x) (text_in (drop (suc k) calls)) part))

-- ---- one beat more

first-beat : (elastic held : ℕ) (opened : Bool) (last : List Call) → IsBeat elastic held opened last → AreBeats elastic held opened (suc zero) last
first-beat elastic held opened last asks = (last, [], asks, sym (append-nil last), refl)

pub AreBeats-more : (elastic held : ℕ) (opened : Bool) (n : ℕ) (calls last : List Call) → AreBeats elastic held opened n calls
    → IsBeat elastic (held_after held calls) (opened_after opened calls) last → AreBeats elastic held opened (suc n) (calls ++ last)
AreBeats-more elastic held opened zero calls last none asks =
    subst (λ (l : List Call). AreBeats elastic held opened (suc zero) (l ++ last)) (sym none)
    (first-beat elastic held opened last (subst (λ (l : List Call). IsBeat elastic (held_after held l) (opened_after opened l) last) none asks))
AreBeats-more elastic held opened (suc n) calls last (first, rest, asks, is, more) behind =
    let held-now : held_after held calls ≡ held_after (held_after held first) rest = ap (held_after held) is ∙ fold-append held_by held first rest in
    let opened-now : opened_after opened calls ≡ opened_after (opened_after opened first) rest = ap (opened_after opened) is ∙ fold-append opened_by opened first rest in
    let then = subst (λ (o : Bool). IsBeat elastic (held_after (held_after held first) rest) o last) opened-now
    (subst (λ (h : ℕ). IsBeat elastic h (opened_after opened calls) last) held-now behind) in
    (first, rest ++ last, asks, ap (λ (l : List Call). l ++ last) is ∙ append_assoc first rest last, AreBeats-more elastic (held_after held first) (opened_after opened first) n rest last more then)
