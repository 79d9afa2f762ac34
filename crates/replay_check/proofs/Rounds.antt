-- What is drawn in a round is the generator's.
use Rattle.std.proofs.Common.{◌≡◌, ℕ, ◌+◌, ◌*◌, ◌/◌, ◌%◌, ◌^◌, List, [], ◌∷◌, ◌++◌, length, take, drop, ap, ◌∙◌, append-nil, arith}
use Rattle.std.proofs.lemmas.List.{take_at, drop_at, drop_all}
use borrow.Rule.Slice.PartMut.{put_mid}
use Rattle.recorder.specs.declared.events.ScriptEvent.TheVariants.{File}
use Rattle.replay_check.specs.Generator.{made_file, made_number, random_word, words_text}

pub event_is : (key key' : List ℕ) (filers r word place place' number : ℕ) (frame : List ℕ) → word ≡ random_word key place → place ≡ 9 * r → number ≡ made_number r word
    → frame ≡ (208 + word / 2 ^ 28) ∷ words_text key' place' 8 → key' ≡ key → place' ≡ place + 1 → File (word % filers) number frame ≡ made_file key filers r
event_is key key' filers r word place place' number frame one at value text same next =
    let w : word ≡ random_word key (9 * r) = one ∙ ap (random_word key) at in
    let p : place' ≡ 9 * r + 1 = next ∙ ap (λ (n : ℕ). n + 1) at in
    let f : frame ≡ (208 + random_word key (9 * r) / 2 ^ 28) ∷ words_text key (9 * r + 1) 8 = text ∙ (λ i. (208 + w i / 2 ^ 28) ∷ words_text (same i) (p i) 8) in
    let v : number ≡ made_number r (random_word key (9 * r)) = value ∙ ap (made_number r) w in
    λ i. File (w i % filers) (v i) (f i)

-- eight words are four and four
pub eight_words : (key key' : List ℕ) (place place' : ℕ) (one two : List ℕ) → one ≡ words_text key place 4 → two ≡ words_text key' place' 4 → key' ≡ key → place' ≡ place + 4 → one ++ two ≡ words_text key place 8
eight_words key key' place place' one two first second same next =
    let last : two ≡ words_text key (place + 1 + 1 + 1 + 1) 4 = second ∙ (λ i. words_text (same i) (next i) 4) ∙ ap (λ (n : ℕ). words_text key n 4) (let e : place + 4 ≡ place + 1 + 1 + 1 + 1 = omega arith in e) in
    λ i. first i ++ last i

-- the rest of a buffer, k places behind n, is what was written there
pub put_rest : (n k : ℕ) (first rest new : List ℕ) → length first ≡ n → length rest ≡ k → put_mid n k (first ++ rest) new ≡ first ++ new
put_rest n k first rest new len more =
    let a : take n (first ++ rest) ≡ first = take_at first rest n len in
    let b : drop k (drop n (first ++ rest)) ≡ [] = ap (λ (l : List ℕ). drop k l) (drop_at first rest n len) ∙ drop_all k rest (omega arith) in
    ap (λ (l : List ℕ). l ++ (new ++ drop k (drop n (first ++ rest)))) a ∙ ap (λ (l : List ℕ). first ++ (new ++ l)) b ∙ ap (λ (l : List ℕ). first ++ l) (append-nil new)
