-- The frames of a packet, one more at a time.
use Rattle.std.proofs.Common.{◌≡◌, ℕ, zero, suc, ◌+◌, ◌-◌, ◌^◌, ◌<◌, ◌≤◌, ◌||◌, Bool, true, false, List, [], ◌∷◌, ◌++◌, length, refl, sym, ap, subst, ◌∙◌, arith, length-append}
use Rattle.playout.specs.declared.reply.FileReply.{FileReply}
use Rattle.playout.specs.declared.reply.FileReply.TheVariants.{Accepted, Duplicate, Late, Beyond}
use Rattle.playout.specs.declared.call.Call.{Call}
use Rattle.playout.specs.declared.call.Call.TheVariants.{FileCall}
use Rattle.playout.specs.History.{Chained, ReplyFits}
use Rattle.filer.proofs.Chains.{chained-append, chained-one}
use Rattle.rtp_codec.specs.Packets.{frame_at}
use Rattle.recorder.specs.Tallies.{is_accepted}
use Rattle.filer.specs.Journals.{RepliesFit}
use Rattle.filer.specs.Takes.{any_accepted, file_calls, frames_from}

-- the first i frames were filed
pub record Filing {S : Type 0} (did : S → Call → S → Type 0) (side now : S) (first : ℕ) (octets : List ℕ) (i : ℕ) (replies : List FileReply) (any : Bool) : Type 0 where
  pub calls : Chained did side (file_calls first (frames_from 0 i octets) replies) now
  pub count : length replies ≡ i
  pub told : any ≡ any_accepted replies
  pub low : any ≡ true → 2 ^ 32 - 16 ≤ first
  pub high : any ≡ true → first < 2 ^ 33 + 2048
  pub fits : RepliesFit first replies

frames-more : (i n : ℕ) (octets : List ℕ) → frames_from i (suc n) octets ≡ frames_from i n octets ++ frame_at octets (i + n) ∷ []
frames-more i zero octets = ap (λ k. frame_at octets k ∷ []) (omega arith)
frames-more i (suc n) octets =
    let e : suc i + n ≡ i + suc n = omega arith in
    ap (λ xs. frame_at octets i ∷ xs) (frames-more (suc i) n octets ∙ ap (λ k. frames_from (suc i) n octets ++ frame_at octets k ∷ []) e)

frames-count : (i n : ℕ) (octets : List ℕ) → length (frames_from i n octets) ≡ n
frames-count i zero octets = refl
frames-count i (suc n) octets = ap suc (frames-count (suc i) n octets)

calls-more : (n : ℕ) (fs : List (List ℕ)) (rs : List FileReply) (f : List ℕ) (r : FileReply) → length rs ≡ length fs
    → file_calls n (fs ++ f ∷ []) (rs ++ r ∷ []) ≡ file_calls n fs rs ++ FileCall (n + length fs) f r ∷ []
calls-more n [] [] f r e = ap (λ k. FileCall k f r ∷ []) (omega arith)
calls-more n [] (x ∷ rs) f r e = absurd (omega arith)
calls-more n (g ∷ fs) [] f r e = absurd (omega arith)
calls-more n (g ∷ fs) (x ∷ rs) f r e =
    let shorter : length rs ≡ length fs = omega arith in
    let same : suc n + length fs ≡ n + suc (length fs) = omega arith in
    ap (λ xs. FileCall n g x ∷ xs) (calls-more (suc n) fs rs f r shorter ∙ ap (λ k. file_calls (suc n) fs rs ++ FileCall k f r ∷ []) same)

any-more : (rs : List FileReply) (r : FileReply) → any_accepted (rs ++ r ∷ []) ≡ (any_accepted rs || is_accepted r)
any-more [] r = grind arith
any-more (x ∷ rs) r = go (is_accepted x) (any-more rs r)
  where
    go : (b : Bool) → any_accepted (rs ++ r ∷ []) ≡ (any_accepted rs || is_accepted r) → (b || any_accepted (rs ++ r ∷ [])) ≡ ((b || any_accepted rs) || is_accepted r)
    go true e = refl
    go false e = e

-- what a reply that was accepted says of the first number
low-of : (b : Bool) (r : FileReply) (first i : ℕ) → i < 10 → ReplyFits (first + i) r → (b ≡ true → 2 ^ 32 - 16 ≤ first) → (b || is_accepted r) ≡ true → 2 ^ 32 - 16 ≤ first
low-of true r first i few fits low e = low refl
low-of false Accepted first i few fits low e = omega arith
low-of false Duplicate first i few fits low e = cc
low-of false (Late a) first i few fits low e = cc
low-of false (Beyond a) first i few fits low e = cc

high-of : (b : Bool) (r : FileReply) (first i : ℕ) → ReplyFits (first + i) r → (b ≡ true → first < 2 ^ 33 + 2048) → (b || is_accepted r) ≡ true → first < 2 ^ 33 + 2048
high-of true r first i fits high e = high refl
high-of false Accepted first i fits high e = omega arith
high-of false Duplicate first i fits high e = cc
high-of false (Late a) first i fits high e = cc
high-of false (Beyond a) first i fits high e = cc

-- a reply more that fits its number
fits-more : (n : ℕ) (rs : List FileReply) (r : FileReply) → RepliesFit n rs → ReplyFits (n + length rs) r → RepliesFit n (rs ++ r ∷ [])
fits-more n [] r h f = let e : n + 0 ≡ n = omega arith in (subst (λ (k : ℕ). ReplyFits k r) e f, tt)
fits-more n (x ∷ rs) r h f =
    let e : n + suc (length rs) ≡ suc n + length rs = omega arith in
    (h.0, fits-more (suc n) rs r h.1 (subst (λ (k : ℕ). ReplyFits k r) e f))

pub filing-none : {S : Type 0} (did : S → Call → S → Type 0) (side : S) (first : ℕ) (octets : List ℕ) → Filing did side side first octets 0 [] false
filing-none did side first octets = record { calls = refl; count = refl; told = refl; low = λ e. cc; high = λ e. cc; fits = tt }

pub filing-more : {S : Type 0} (did : S → Call → S → Type 0) (side now next : S) (first : ℕ) (octets : List ℕ) (i : ℕ) (replies : List FileReply) (any : Bool) (r : FileReply)
    → Filing did side now first octets i replies any → i < 10 → did now (FileCall (first + i) (frame_at octets i) r) next → ReplyFits (first + i) r
    → Filing did side next first octets (i + 1) (replies ++ r ∷ []) (any || is_accepted r)
filing-more did side now next first octets i replies any r h few did_it fits =
    let one : i + 1 ≡ suc i = omega arith in
    let count : length (frames_from 0 i octets) ≡ i = frames-count 0 i octets in
    let frames : frames_from 0 (i + 1) octets ≡ frames_from 0 i octets ++ frame_at octets i ∷ [] = ap (λ k. frames_from 0 k octets) one ∙ frames-more 0 i octets ∙ ap (λ k. frames_from 0 i octets ++ frame_at octets k ∷ []) (omega arith) in
    let calls : file_calls first (frames_from 0 (i + 1) octets) (replies ++ r ∷ []) ≡ file_calls first (frames_from 0 i octets) replies ++ FileCall (first + i) (frame_at octets i) r ∷ []
    = ap (λ fs. file_calls first fs (replies ++ r ∷ [])) frames ∙ calls-more first (frames_from 0 i octets) replies (frame_at octets i) r (h.count ∙ sym count)
    ∙ ap (λ k. file_calls first (frames_from 0 i octets) replies ++ FileCall (first + k) (frame_at octets i) r ∷ []) count in
    record {
      calls = subst (λ cs. Chained did side cs next) (sym calls) (chained-append did side now next _ _ h.calls (chained-one did now next _ did_it));
      count = simp length-append (omega arith);
      told = ap (λ (b : Bool). b || is_accepted r) h.told ∙ sym (any-more replies r);
      low = low-of any r first i few fits h.low;
      high = high-of any r first i fits h.high;
      fits = fits-more first replies r h.fits (subst (λ (k : ℕ). ReplyFits (first + k) r) (sym h.count) fits);
    }
