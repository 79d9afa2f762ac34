-- Beats of a run, of which none failed, over the list of their calls.
use Rattle.std.proofs.Common.{◌≡◌, ℕ, zero, suc, ◌+◌, ◌*◌, Bool, false, List, [], ◌∷◌, ◌++◌, length, Option, refl, sym, ap, subst, ◌∙◌, length-append, inl, inr, arith}
use Rattle.std.specs.Prelude.{ℤ}
use Rattle.std.specs.List.{AllByRecursion}
use Rattle.std.specs.Int.{w16, cast_unsigned}
use Rattle.std.specs.Io.KnownBytes.{Appends}
use Rattle.std.proofs.KnownBytes.{Appends-nil, Appends-trans}
use Rattle.std.proofs.lemmas.List.Concat.{flat_map-append}
use Rattle.std.proofs.lemmas.List.Sums.{fold-append}
use Rattle.byteorder.specs.Endian.{little_bytes}
use Rattle.gate_io.specs.Links.{GoesTo, LinkLog}
use Rattle.frame_codec.specs.declared.item.Item.{Item}
use Rattle.playout.specs.declared.call.Call.{Call}
use Rattle.playout.specs.History.{Chained, moves}
use Rattle.recorder.specs.declared.tally.PlayTally.{PlayTally}
use Rattle.recorder.specs.Tallies.{play_tally}
use Rattle.substitution.specs.Heard.{Voices, sample_octets}
use Rattle.player.specs.declared.beat.Beat.{Beat}
use Rattle.player.specs.declared.beat.Beat.TheVariants as beat
use Rattle.player.specs.declared.return_stream.ReturnEnd.TheVariants as ends
use Rattle.player.specs.Returning.{Returns, next_packet}
use Rattle.player.specs.Beats.{Beats, CanBeTold, IsBeat, Playing, Standing, Starts, all_counted, held_after, held_by, opened_after, opened_by}
use Rattle.player.specs.PlayerRuns.{PlaysOn}
use Rattle.player.specs.Whole.{AreAllBeats, Sent, items_in, text_in}
use Rattle.player.proofs.CallLists.{AreBeats-more, Chained-append, items-more, moves-more, tally-more, text-more, told-more}
use Rattle.player.proofs.Serving.{Serving, Serving-coded, Serving-none, Serving-silent, sent-more, sent-none}

pub octets-more : (xs ys : List ℤ) → sample_octets (xs ++ ys) ≡ sample_octets xs ++ sample_octets ys
octets-more xs ys = flat_map-append (λ (sample : ℤ). little_bytes 2 (cast_unsigned w16 sample)) xs ys

-- ---- what a beat does, however it ends

-- So many beats made these calls, and played these samples. A fault in the last of them does not matter here.
pub record Asked {S : Type 0} (did : S → Call → S → Type 0) (seed : List ℕ) (elastic made : ℕ) (calls : List Call) (samples : List ℤ) (a b : Standing S) : Type 0 where
  pub side : Chained did a.side calls b.side
  pub position : b.position ≡ a.position + moves calls
  pub slots : b.g ≡ a.g
  pub most_held : b.player.elastic ≡ elastic
  pub held : b.player.held ≡ held_after 0 calls
  pub opened : b.player.opened ≡ opened_after false calls
  pub beats : AreAllBeats elastic made calls
  pub told : AllByRecursion (CanBeTold a.g) calls
  pub voice : Voices seed (items_in calls) samples b.player.voice
  pub count : length samples ≡ 160 * made
  pub tally : b.player.tally ≡ play_tally calls

pub Asked-none : {S : Type 0} (did : S → Call → S → Type 0) (seed : List ℕ) (own sequence stamp most elastic : ℕ) (a : Standing S) → Starts seed own sequence stamp most elastic a.player
    → Asked did seed elastic 0 [] [] a a
Asked-none did seed own sequence stamp most elastic a s = record {
  side = refl;
  position = omega arith;
  slots = refl;
  most_held = s.most_held;
  held = s.held;
  opened = s.opened;
  beats = refl;
  told = tt;
  voice = s.voice;
  count = refl;
  tally = s.tally;
}

-- a beat by what was said of the one before
asked-by : (elastic held : ℕ) (opened : Bool) (p : Playing) (calls : List Call) → p.elastic ≡ elastic → p.held ≡ held → p.opened ≡ opened → IsBeat p.elastic p.held p.opened calls → IsBeat elastic held opened calls
asked-by elastic held opened p calls most few seen asks =
    subst (λ (e : ℕ). IsBeat e held opened calls) most (subst (λ (h : ℕ). IsBeat p.elastic h opened calls) few (subst (λ (o : Bool). IsBeat p.elastic p.held o calls) seen asks))

module _ {S : Type 0} (did : S → Call → S → Type 0) (seed : List ℕ) (elastic made : ℕ) (calls : List Call) (samples : List ℤ) (a m b : Standing S) (end : Beat)
    (asked : Asked did seed elastic made calls samples a m) (x : Beats did m b end) where
  -- one beat more
  pub Asked-more : Asked did seed elastic (suc made) (calls ++ x.calls) (samples ++ x.played) a b
  Asked-more = record {
    side = Chained-append did a.side m.side b.side calls x.calls asked.side x.side;
    position = moves-more a.position m.position b.position calls x.calls asked.position x.position;
    slots = x.slots ∙ asked.slots;
    most_held = ap (λ (p : Playing). p.elastic) x.player ∙ asked.most_held;
    held = ap (λ (p : Playing). p.held) x.player ∙ ap (λ (h : ℕ). held_after h x.calls) asked.held ∙ sym (fold-append held_by 0 calls x.calls);
    opened = ap (λ (p : Playing). p.opened) x.player ∙ ap (λ (o : Bool). opened_after o x.calls) asked.opened ∙ sym (fold-append opened_by false calls x.calls);
    beats = AreBeats-more elastic 0 false made calls x.calls asked.beats
        (asked-by elastic (held_after 0 calls) (opened_after false calls) m.player x.calls asked.most_held asked.held asked.opened x.asks);
    told = told-more a.g calls x.calls asked.told (subst (λ (g : ℕ). AllByRecursion (CanBeTold g) x.calls) asked.slots x.told);
    voice = subst (λ (l : List Item). Voices seed l (samples ++ x.played) b.player.voice) (sym (items-more calls x.calls x.item x.heard)) (x.voice seed (items_in calls) samples asked.voice);
    count = omega (arith, length-append samples x.played, asked.count, x.count);
    tally = ap (λ (p : Playing). p.tally) x.player ∙ ap (λ (t : PlayTally). all_counted t x.calls) asked.tally ∙ tally-more calls x.calls;
  }

-- ---- beats of which none failed

-- the same, and all was given and sent
pub record WholeBeats {S : Type 0} (did : S → Call → S → Type 0) (seed : List ℕ) (own sequence stamp elastic made : ℕ) (a b : Standing S) : Type 0 where
  pub calls : List Call
  pub samples : List ℤ
  pub asked : Asked did seed elastic made calls samples a b
  pub speaker : Appends a.heard b.heard (sample_octets samples)
  pub journal : Appends a.written b.written (text_in calls)
  pub pieces : List (List ℕ)
  pub packets : List (List ℕ)
  pub serving : Serving own sequence stamp made a.left b.left b.player.stream pieces packets
  pub sent : GoesTo a.log b.log (Sent packets)

pub WholeBeats-none : {S : Type 0} (did : S → Call → S → Type 0) (seed : List ℕ) (own sequence stamp most elastic : ℕ) (a : Standing S) → Starts seed own sequence stamp most elastic a.player
    → WholeBeats did seed own sequence stamp elastic 0 a a
WholeBeats-none did seed own sequence stamp most elastic a s = record {
  calls = [];
  samples = [];
  asked = Asked-none did seed own sequence stamp most elastic a s;
  speaker = Appends-nil a.heard;
  journal = Appends-nil a.written;
  pieces = [];
  packets = [];
  serving = Serving-none own sequence stamp a.left a.player.stream s.stream s.running;
  sent = sent-none a.log;
}

pub speaker-more : (a b c : Option (List ℕ)) (xs ys : List ℤ) → Appends a b (sample_octets xs) → Appends b c (sample_octets ys) → Appends a c (sample_octets (xs ++ ys))
speaker-more a b c xs ys p q = subst (Appends a c) (sym (octets-more xs ys)) (Appends-trans a b c (sample_octets xs) (sample_octets ys) p q)

pub journal-more : (a b c : Option (List ℕ)) (calls more : List Call) → Appends a b (text_in calls) → Appends b c (text_in more) → Appends a c (text_in (calls ++ more))
journal-more a b c calls more p q = subst (Appends a c) (sym (text-more calls more)) (Appends-trans a b c (text_in calls) (text_in more) p q)

module _ {S : Type 0} (did : S → Call → S → Type 0) (seed : List ℕ) (own sequence stamp elastic made : ℕ) (a m b : Standing S) (w : WholeBeats did seed own sequence stamp elastic made a m) (x : Beats did m b beat.Played) where
  with-packet : Returns m.player.stream b.player.stream m.left b.left m.log b.log ends.Sent → WholeBeats did seed own sequence stamp elastic (suc made) a b
  with-packet (octets, frame, codes, sent) = record {
    calls = w.calls ++ x.calls;
    samples = w.samples ++ x.played;
    asked = Asked-more did seed elastic made w.calls w.samples a m b beat.Played w.asked x;
    speaker = speaker-more a.heard m.heard b.heard w.samples x.played w.speaker x.speaker;
    journal = journal-more a.written m.written b.written w.calls x.calls w.journal x.journal;
    pieces = w.pieces ++ octets ∷ [];
    packets = w.packets ++ next_packet m.player.stream frame ∷ [];
    serving = Serving-coded own sequence stamp made a.left m.left b.left m.player.stream b.player.stream w.pieces w.packets w.serving octets frame codes;
    sent = sent-more a.log m.log b.log w.packets (next_packet m.player.stream frame) w.sent sent;
  }

  with-none : Returns m.player.stream b.player.stream m.left b.left m.log b.log ends.Silent → WholeBeats did seed own sequence stamp elastic (suc made) a b
  with-none (is, unsent, silent) = record {
    calls = w.calls ++ x.calls;
    samples = w.samples ++ x.played;
    asked = Asked-more did seed elastic made w.calls w.samples a m b beat.Played w.asked x;
    speaker = speaker-more a.heard m.heard b.heard w.samples x.played w.speaker x.speaker;
    journal = journal-more a.written m.written b.written w.calls x.calls w.journal x.journal;
    pieces = w.pieces;
    packets = w.packets;
    serving = Serving-silent own sequence stamp made a.left m.left b.left m.player.stream b.player.stream w.pieces w.packets w.serving is silent;
    sent = subst (λ (l : Option LinkLog). GoesTo a.log l (Sent w.packets)) (sym unsent) w.sent;
  }

  -- one beat more
  pub WholeBeats-more : WholeBeats did seed own sequence stamp elastic (suc made) a b
  WholeBeats-more = elim x.reply [ inl p ↦ with-packet p | inr p ↦ with-none p ]

-- all of them
pub WholeBeats-all : {S : Type 0} (did : S → Call → S → Type 0) (seed : List ℕ) (own sequence stamp most elastic made : ℕ) (a b : Standing S) → Starts seed own sequence stamp most elastic a.player → PlaysOn did made a b
    → WholeBeats did seed own sequence stamp elastic made a b
WholeBeats-all {S} did seed own sequence stamp most elastic zero a b s on = subst (λ (t : Standing S). WholeBeats did seed own sequence stamp elastic 0 a t) on (WholeBeats-none did seed own sequence stamp most elastic a s)
WholeBeats-all did seed own sequence stamp most elastic (suc n) a b s (m, on, last) =
    WholeBeats-more did seed own sequence stamp elastic n a m b (WholeBeats-all did seed own sequence stamp most elastic n a m s on) last
