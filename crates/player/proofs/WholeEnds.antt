-- How a run ends, over the list of all its calls.
use Rattle.std.proofs.Common.{◌≡◌, ℕ, suc, ◌+◌, ◌-◌, ◌*◌, ◌≤◌, List, [], ◌∷◌, ◌++◌, length, take, Option, refl, sym, ap, subst, ◌∙◌, append-nil, length-append, inl, inr, arith}
use Rattle.std.specs.Prelude.{ℤ}
use Rattle.std.specs.Io.KnownBytes.{Appends}
use Rattle.std.proofs.KnownBytes.{Appends-trans}
use Rattle.std.proofs.Math.Seq.{take-append-add}
use Rattle.gate_io.specs.Flow.{AppendsPart}
use Rattle.gate_io.specs.Links.{GoesTo, LinkLog}
use Rattle.playout.specs.declared.call.Call.{Call}
use Rattle.recorder.specs.Files.{end_mark}
use Rattle.substitution.specs.Heard.{sample_octets}
use Rattle.player.specs.declared.beat.Beat.{Beat}
use Rattle.player.specs.declared.beat.Beat.TheVariants as beat
use Rattle.player.specs.declared.run.PlayerEnd.{PlayerEnd}
use Rattle.player.specs.declared.run.PlayerEnd.TheVariants as ended
use Rattle.player.specs.declared.return_stream.ReturnEnd.TheVariants as ends
use Rattle.player.specs.Returning.{Returns, next_packet}
use Rattle.player.specs.Beats.{Beats, Playing, Standing}
use Rattle.player.specs.PlayerRuns.{Marked, with_written}
use Rattle.player.specs.Whole.{ButLast, Journaled, MarkedBehind, PlayerGave, PlayerTold, Returned, Sent, SpeakerHas, ports, text_in}
use Rattle.player.proofs.CallLists.{text-more}
use Rattle.player.proofs.Serving.{Serving-coded, sent-or-not, served}
use Rattle.player.proofs.WholeBeats.{Asked, Asked-more, WholeBeats, journal-more, octets-more, speaker-more}

-- ---- parts

octets-count : (samples : List ℤ) → length (sample_octets samples) ≡ 2 * length samples
octets-count [] = refl
octets-count (x ∷ samples) = omega (arith, octets-count samples)

-- all of the earlier beats, and a front of the last
speaker-part : (n : ℕ) (a b c : Option (List ℕ)) (xs ys : List ℤ) → length xs ≡ 160 * n → Appends a b (sample_octets xs) → AppendsPart b c (sample_octets ys)
    → (k : ℕ) × (320 * (suc n - 1) ≤ k) × Appends a c (take k (sample_octets (xs ++ ys)))
speaker-part n a b c xs ys count p (k, q) =
    let first = sample_octets xs in
    let most : 320 * (suc n - 1) ≤ length first + k = omega (arith, octets-count xs, count) in
    let is : take (length first + k) (sample_octets (xs ++ ys)) ≡ first ++ take k (sample_octets ys) =
    ap (take (length first + k)) (octets-more xs ys) ∙ take-append-add first (sample_octets ys) k in
    (length first + k, most, subst (Appends a c) (sym is) (Appends-trans a b c first (take k (sample_octets ys)) p q))

journal-part : (a b c : Option (List ℕ)) (calls more : List Call) → Appends a b (text_in calls) → AppendsPart b c (text_in more)
    → (k : ℕ) × (length (text_in calls) ≤ k) × Appends a c (take k (text_in (calls ++ more)))
journal-part a b c calls more p (k, q) =
    let first = text_in calls in
    let most : length first ≤ length first + k = omega arith in
    let is : take (length first + k) (text_in (calls ++ more)) ≡ first ++ take k (text_in more) =
    ap (take (length first + k)) (text-more calls more) ∙ take-append-add first (text_in more) k in
    (length first + k, most, subst (Appends a c) (sym is) (Appends-trans a b c first (take k (text_in more)) p q))

-- the end mark behind the text
marked-behind : (a b c : Option (List ℕ)) (before now : ℕ) (text : List ℕ) → Appends a b text → Marked b c before now → MarkedBehind a c before now text
marked-behind a b c before now text p (inl q) = inl (Appends-trans a b c text (end_mark ∷ []) p q)
marked-behind a b c before now text p (inr (q, rose)) = inr (subst (Appends a c) (append-nil text) (Appends-trans a b c text [] p q), rose)

-- all but the last of the beats
but-last : {S : Type 0} (did : S → Call → S → Type 0) (seed : List ℕ) (elastic n : ℕ) (calls last : List Call) (samples : List ℤ) (a m : Standing S) → Asked did seed elastic n calls samples a m
    → ButLast elastic (suc n) (calls ++ last) calls
but-last did seed elastic n calls last samples a m asked = record { last = last; count = n; one_more = refl; beats = asked.beats; calls_are = refl }

-- ---- a run of its parts

told : {S : Type 0} (did : S → Call → S → Type 0) (seed : List ℕ) (own sequence stamp elastic before now n : ℕ) (a b : Standing S) (end : PlayerEnd) (calls : List Call) (samples : List ℤ) (behind : ℕ)
    → Asked did seed elastic n calls samples a b → b.player.made ≡ n → SpeakerHas end n a.heard b.heard (sample_octets samples) → Journaled end elastic before now n calls a.written b.written behind
    → Returned end own sequence stamp behind a.left b.left a.log b.log → PlayerTold did seed own sequence stamp elastic before now a b end
told did seed own sequence stamp elastic before now n a b end calls samples behind asked made speaker journal reply = record {
  calls = calls;
  side = asked.side;
  position = asked.position;
  gave = subst (λ (k : ℕ). PlayerGave seed own sequence stamp elastic a.g before now k calls (ports a) (ports b) end) (sym made) gave;
  tally = asked.tally;
}
  where
    gave : PlayerGave seed own sequence stamp elastic a.g before now n calls (ports a) (ports b) end
    gave = record { beats = asked.beats; told = asked.told; samples = samples; heard = asked.voice.heard; speaker = speaker; served = behind; journal = journal; reply = reply }

-- what was asked stands whatever the journal was given then
marked : {S : Type 0} (did : S → Call → S → Type 0) (seed : List ℕ) (elastic n : ℕ) (calls : List Call) (samples : List ℤ) (a m : Standing S) (written : Option (List ℕ)) → Asked did seed elastic n calls samples a m
    → Asked did seed elastic n calls samples a (with_written m written)
marked did seed elastic n calls samples a m written s = record {
  side = s.side;
  position = s.position;
  slots = s.slots;
  most_held = s.most_held;
  held = s.held;
  opened = s.opened;
  beats = s.beats;
  told = s.told;
  voice = s.voice;
  count = s.count;
  tally = s.tally;
}

-- ---- no beat failed

module _ {S : Type 0} (did : S → Call → S → Type 0) (seed : List ℕ) (own sequence stamp elastic before now : ℕ) (a m : Standing S) (written : Option (List ℕ))
    (w : WholeBeats did seed own sequence stamp elastic m.player.made a m) where
  kept : Asked did seed elastic m.player.made w.calls w.samples a (with_written m written)
  kept = marked did seed elastic m.player.made w.calls w.samples a m written w.asked

  returned : Returned ended.Ended own sequence stamp m.player.made a.left m.left a.log m.log
  returned = (w.pieces, w.packets, served own sequence stamp m.player.made a.left m.left m.player.stream w.pieces w.packets w.serving, w.sent)

  pub told-ended : Appends m.written written (end_mark ∷ []) → PlayerTold did seed own sequence stamp elastic before now a (with_written m written) ended.Ended
  told-ended mark =
      told did seed own sequence stamp elastic before now m.player.made a (with_written m written) ended.Ended w.calls w.samples m.player.made kept refl w.speaker
      (Appends-trans a.written m.written written (text_in w.calls) (end_mark ∷ []) w.journal mark, refl) returned

  -- the end mark was not given
  pub told-unmarked : AppendsPart m.written written (end_mark ∷ []) → PlayerTold did seed own sequence stamp elastic before now a (with_written m written) ended.JournalFault
  told-unmarked (k, mark) =
      told did seed own sequence stamp elastic before now m.player.made a (with_written m written) ended.JournalFault w.calls w.samples m.player.made kept refl w.speaker
      (inr (k, Appends-trans a.written m.written written (text_in w.calls) (take k (end_mark ∷ [])) w.journal mark, refl)) returned

-- ---- the last beat failed

module _ {S : Type 0} (did : S → Call → S → Type 0) (seed : List ℕ) (own sequence stamp elastic before now : ℕ) (a m b : Standing S) (end : Beat) (w : WholeBeats did seed own sequence stamp elastic m.player.made a m) (x : Beats did m b end) where
  abbrev calls : List Call
  calls = w.calls ++ x.calls

  abbrev samples : List ℤ
  samples = w.samples ++ x.played

  made : b.player.made ≡ suc m.player.made
  made = let next : b.player.made ≡ m.player.made + 1 = ap (λ (p : Playing). p.made) x.player in omega arith

  asked : Asked did seed elastic (suc m.player.made) calls samples a b
  asked = Asked-more did seed elastic m.player.made w.calls w.samples a m b end w.asked x

  -- with what the journal was given then
  pub told-last : (behind : PlayerEnd) (written : Option (List ℕ)) → SpeakerHas behind (suc m.player.made) a.heard b.heard (sample_octets samples)
      → Journaled behind elastic before now (suc m.player.made) calls a.written written m.player.made → Returned behind own sequence stamp m.player.made a.left b.left a.log b.log
      → PlayerTold did seed own sequence stamp elastic before now a (with_written b written) behind
  told-last behind written speaker journal reply =
      told did seed own sequence stamp elastic before now (suc m.player.made) a (with_written b written) behind calls samples m.player.made
      (marked did seed elastic (suc m.player.made) calls samples a b written asked) made speaker journal reply

  -- the return stream was not asked
  pub unasked : b.left ≡ m.left → b.log ≡ m.log → Returned ended.Ended own sequence stamp m.player.made a.left b.left a.log b.log
  unasked left log =
      subst (λ (l : Option LinkLog). Returned ended.Ended own sequence stamp m.player.made a.left b.left a.log l) (sym log)
      (subst (λ (o : Option (List ℕ)). Returned ended.Ended own sequence stamp m.player.made a.left o a.log m.log) (sym left)
      (w.pieces, w.packets, served own sequence stamp m.player.made a.left m.left m.player.stream w.pieces w.packets w.serving, w.sent))

module _ {S : Type 0} (did : S → Call → S → Type 0) (seed : List ℕ) (own sequence stamp elastic before now : ℕ) (a m b : Standing S) (w : WholeBeats did seed own sequence stamp elastic m.player.made a m) where
  pub told-speaker : (x : Beats did m b beat.SpeakerFault) (written : Option (List ℕ)) → Marked b.written written before now
      → PlayerTold did seed own sequence stamp elastic before now a (with_written b written) ended.SpeakerFault
  told-speaker x written mark =
      let still : Marked m.written written before now = subst (λ (o : Option (List ℕ)). Marked o written before now) x.journal mark in
      told-last did seed own sequence stamp elastic before now a m b beat.SpeakerFault w x ended.SpeakerFault written
      (speaker-part m.player.made a.heard m.heard b.heard w.samples x.played w.asked.count w.speaker x.speaker)
      (w.calls, but-last did seed elastic m.player.made w.calls x.calls w.samples a m w.asked, marked-behind a.written m.written written before now (text_in w.calls) w.journal still, refl)
      (unasked did seed own sequence stamp elastic before now a m b beat.SpeakerFault w x x.reply.1 x.reply.2)

  pub told-journal : Beats did m b beat.JournalFault → PlayerTold did seed own sequence stamp elastic before now a b ended.JournalFault
  told-journal x =
      let part = journal-part a.written m.written b.written w.calls x.calls w.journal x.journal in
      told-last did seed own sequence stamp elastic before now a m b beat.JournalFault w x ended.JournalFault b.written
      (speaker-more a.heard m.heard b.heard w.samples x.played w.speaker x.speaker)
      (inl (w.calls, part.0, but-last did seed elastic m.player.made w.calls x.calls w.samples a m w.asked, part.1, part.2, refl))
      (unasked did seed own sequence stamp elastic before now a m b beat.JournalFault w x x.reply.1 x.reply.2)

  pub told-mic : (x : Beats did m b beat.MicFault) (written : Option (List ℕ)) → Marked b.written written before now
      → PlayerTold did seed own sequence stamp elastic before now a (with_written b written) ended.MicFault
  told-mic x written mark =
      told-last did seed own sequence stamp elastic before now a m b beat.MicFault w x ended.MicFault written
      (speaker-more a.heard m.heard b.heard w.samples x.played w.speaker x.speaker)
      (marked-behind a.written b.written written before now (text_in (w.calls ++ x.calls)) (journal-more a.written m.written b.written w.calls x.calls w.journal x.journal) mark, refl) (
        w.pieces,
        w.packets,
        m.left,
        served own sequence stamp m.player.made a.left m.left m.player.stream w.pieces w.packets w.serving,
        w.serving.running x.reply.2,
        x.reply.3,
        subst (λ (l : Option LinkLog). GoesTo a.log l (Sent w.packets)) (sym x.reply.1) w.sent,
      )

  pub told-reply : (x : Beats did m b beat.ReplyFault) (written : Option (List ℕ)) → Marked b.written written before now
      → PlayerTold did seed own sequence stamp elastic before now a (with_written b written) ended.ReplyFault
  told-reply x written mark =
      told-last did seed own sequence stamp elastic before now a m b beat.ReplyFault w x ended.ReplyFault written
      (speaker-more a.heard m.heard b.heard w.samples x.played w.speaker x.speaker)
      (marked-behind a.written b.written written before now (text_in (w.calls ++ x.calls)) (journal-more a.written m.written b.written w.calls x.calls w.journal x.journal) mark, refl)
      (lost x.reply)
    where
      lost : Returns m.player.stream b.player.stream m.left b.left m.log b.log ends.ReplyFault → Returned ended.ReplyFault own sequence stamp m.player.made a.left b.left a.log b.log
      lost (octets, frame, codes, sent) =
          let all : length w.pieces ≡ m.player.made = w.serving.running codes.running in (
            w.pieces ++ octets ∷ [],
            w.packets ++ next_packet m.player.stream frame ∷ [],
            served own sequence stamp (suc m.player.made) a.left b.left b.player.stream (w.pieces ++ octets ∷ []) (w.packets ++ next_packet m.player.stream frame ∷ [])
                (Serving-coded own sequence stamp m.player.made a.left m.left b.left m.player.stream b.player.stream w.pieces w.packets w.serving octets frame codes),
            omega (arith, length-append w.pieces (octets ∷ [])),
            sent-or-not a.log m.log b.log w.packets (next_packet m.player.stream frame) w.sent sent,
          )
