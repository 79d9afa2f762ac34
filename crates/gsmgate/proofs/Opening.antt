-- The objects of a gateway, one more, and what the words come to.
use Rattle.std.proofs.Common.{◌≡◌, inr, ℕ, zero, suc, ◌+◌, ◌<◌, slice_index_or, slice_set, List, [], ◌∷◌, ◌++◌, map, length, length-append, Option, Some, None, true, false, ap, refl, subst, sym, ◌∙◌, arith}
use Rattle.std.specs.Prelude.{IsSome, IfSome}
use Rattle.std.proofs.lemmas.List.{length-map}
use Rattle.std.specs.List.{AllByRecursion}
use Rattle.std.specs.String.{string_bytes}
use Rattle.gate_os.specs.Edges.{SocketState}
use Rattle.command_line.specs.Said.{Text}
use Rattle.command_line.specs.Lines.{Said}
use Rattle.command_line.specs.declared.line.Line.TheVariants as line
use Rattle.gate_notes.specs.Exchange.{Giving}
use Rattle.gsmgate.specs.Gateway.{AreFresh, AreOpen, Begins, IsFresh, IsOpened, IsOpenedAt, IsQuiet, IsReply, Starts, SystemStarted, begun_at}
use Rattle.gsmgate.specs.Places.{ArePlaces, journals_from, journals_of}
use Rattle.gsmgate.specs.declared.places.Places.{Places}
use Rattle.gsmgate.specs.declared.starting.Started.TheVariants.{Ended, Files, Serve}
use Rattle.gate_notes.specs.declared.status.Status.TheVariants.{OutOfMemory}

-- ---- sockets

all-more : (P : SocketState → Type 0) (xs : List SocketState) (x : SocketState) → AllByRecursion P xs → P x → AllByRecursion P (xs ++ x ∷ [])
all-more P [] x all one = (one, tt)
all-more P (y ∷ ys) x all one = (all.0, all-more P ys x all.1 one)

pub fresh-more : (life n : ℕ) (xs : List SocketState) (s : SocketState) → AreFresh life n xs → IsFresh life s → AreFresh life (n + 1) (xs ++ s ∷ [])
fresh-more life n xs s all one = record {
  many = omega (arith, length-append xs (s ∷ []), all.many);
  fresh = all-more (IsFresh life) xs s all.fresh one;
}

still-fresh : (life : ℕ) (start : Option ℕ) (xs : List SocketState) → AllByRecursion (IsFresh life) xs → AllByRecursion (IsFresh life) (map (begun_at start) xs)
still-fresh life start [] all = tt
still-fresh life start (s ∷ rest) all = (
  record { target = all.0.target; free = all.0.free; lasts = all.0.lasts; ended = all.0.ended; faults = all.0.faults },
  still-fresh life start rest all.1,
)

pub fresh-begun : (life n : ℕ) (start : Option ℕ) (xs : List SocketState) → AreFresh life n xs → AreFresh life n (map (begun_at start) xs)
fresh-begun life n start xs all = record { many = length-map xs (begun_at start) ∙ all.many; fresh = still-fresh life start xs all.fresh }

pub reply-begun : (life : ℕ) (start : Option ℕ) (s : SocketState) → IsReply life s → IsReply life (begun_at start s)
reply-begun life start s is = record { target = is.target; fixed = is.fixed; lasts = is.lasts; ended = is.ended; faults = is.faults }

pub all-begun : (start : Option ℕ) (xs : List SocketState) → AllByRecursion (Begins start) (map (begun_at start) xs)
all-begun start [] = tt
all-begun start (s ∷ rest) = (refl, all-begun start rest)

-- a list whose first so many items are mapped
abbrev pub mapped : {A : Type 0} → (A → A) → ℕ → List A → List A
mapped f zero xs = xs
mapped f (suc n) [] = []
mapped f (suc n) (x ∷ xs) = f x ∷ mapped f n xs

pub mapped-more : {A : Type 0} (f : A → A) (n : ℕ) (xs : List A) (d : A) → n < length xs → slice_set (mapped f n xs) n (f (slice_index_or (mapped f n xs) n d)) ≡ mapped f (suc n) xs
mapped-more f zero (x ∷ xs) d within = refl
mapped-more f (suc n) (x ∷ xs) d within = ap (λ (rest : List _). f x ∷ rest) (mapped-more f n xs d (omega (arith, within)))
mapped-more f zero [] d within = absurd (omega (arith, within))
mapped-more f (suc n) [] d within = absurd (omega (arith, within))

pub mapped-all : {A : Type 0} (f : A → A) (xs : List A) → mapped f (length xs) xs ≡ map f xs
mapped-all f [] = refl
mapped-all f (x ∷ xs) = ap (λ (rest : List _). f x ∷ rest) (mapped-all f xs)

-- ---- journals

from-length : (p : Text) (k n : ℕ) → length (journals_from p k n) ≡ n
from-length p k zero = refl
from-length p k (suc n) = ap suc (from-length p (k + 1) n)

pub journals-length : (p : Text) (n : ℕ) → length (journals_of p n) ≡ n + 1
journals-length p n = ap suc (from-length p 0 n) ∙ add-one-back n
  where
    add-one-back : (m : ℕ) → suc m ≡ m + 1
    add-one-back m = omega arith

-- ---- what the words come to

pub starved : (words : List Text) (said : Option Said) (x : Giving) → IsQuiet x → Starts words said (Ended OutOfMemory) x
starved words None x quiet = inr (refl, quiet)
starved words (Some (line.Files s)) x quiet = (refl, quiet)
starved words (Some (line.Serve s)) x quiet = (refl, quiet)

never : (p : Places) → p.serve ≡ false → p.serve ≡ true → ⊥
never p no_serve serve = cc

nothing : false ≡ true → ⊥
nothing h = cc

pub opened : (words : List Text) (said : Option Said) (p : Places) (s : SystemStarted) (x : Giving) → IfSome said (λ l. ArePlaces l p) → IsSome said → IsOpenedAt words p s → IsQuiet x → Starts words said s x
opened words None p (Ended status) x places line at quiet = absurd (nothing line)
opened words None p (Files o) x places line at quiet = nothing line
opened words None p (Serve o) x places line at quiet = nothing line
opened words (Some (line.Files l)) p (Ended status) x places line at quiet = absurd at
opened words (Some (line.Serve l)) p (Ended status) x places line at quiet = absurd at
opened words (Some (line.Files l)) p (Files o) x places line at quiet =
    let count : length p.inputs.items ≡ length l.inputs = sym (length-map p.inputs.items string_bytes) ∙ ap (λ (texts : List Text). length texts) places.inputs in
    (subst (λ (n : ℕ). AreOpen words n o) count at.1, quiet)
opened words (Some (line.Files l)) p (Serve o) x places line at quiet = never p places.serve at.0
opened words (Some (line.Serve l)) p (Files o) x places line at quiet = never p at.0 places.serve
opened words (Some (line.Serve l)) p (Serve o) x places line at quiet =
    let links : length p.links.items ≡ length l.listen = sym (length-map p.links.items string_bytes) ∙ ap (λ (texts : List Text). length texts) places.links in
    let journals : length p.journals.items ≡ length l.listen + 1 =
    sym (length-map p.journals.items string_bytes) ∙ ap (λ (texts : List Text). length texts) places.journals ∙ journals-length l.journals (length l.listen) in
    let ticks : IsOpened l.options.ticks (length p.links.items) (length p.journals.items) o.gateway = subst (λ (n : ℕ). IsOpened n (length p.links.items) (length p.journals.items) o.gateway) places.ticks at.2 in
    let listening : IsOpened l.options.ticks (length l.listen) (length p.journals.items) o.gateway = subst (λ (n : ℕ). IsOpened l.options.ticks n (length p.journals.items) o.gateway) links ticks in
    (at.1, subst (λ (n : ℕ). IsOpened l.options.ticks (length l.listen) n o.gateway) journals listening, quiet)
