use Rattle.std.proofs.Common.{◌≡◌, ℕ, List, ◌∷◌, ◌++◌, length, take, refl, sym, ap, subst, ◌∙◌, arith}
use Rattle.std.specs.Io.KnownBytes.{Consumes}
use Rattle.std.proofs.KnownBytes.{Consumes-trans}
use Rattle.byteorder.specs.Endian.{big_bytes}
use Rattle.recorder.proofs.Taken.{fewer_of, fewer_taken, fewer_behind}
use Rattle.std.proofs.lemmas.List.{length-take-le}
use Rattle.recorder.proofs.script_read.read_datagram.Goals as goal

pub returns-in-Ok-read_octets-clause-text : goal.returns-in-Ok-read_octets-clause-text
returns-in-Ok-read_octets-clause-text g c =
    let h = c.in-Ok-datagram_head.fields in
    let octets = c.in-Ok-read_octets.octets in
    let first = take c.in-Ok.count c.fill.new.into in
    let left = g.I.Source.left in
    let both = Consumes-trans (left c.args.source.now) (left c.fill.new.source) (left c.read_octets.new.source) first octets c.in-Ok.ensures.filled.0 c.in-Ok-read_octets.ensures.text.0 in
    let made : ℕ → List ℕ = λ n. h.caller ∷ (big_bytes 4 h.at ++ (big_bytes 2 n ++ octets)) in
    let whole : first ++ octets ≡ made (length octets) = ap (λ (l : List ℕ). l ++ octets) c.in-Ok-datagram_head.ensures.text ∙ ap made (sym c.in-Ok-read_octets.ensures.text.1) in
    (made (length octets), refl, subst (Consumes (left c.args.source.now) (left c.read_octets.new.source)) whole both)

pub returns-in-Err-clause-part : goal.returns-in-Err-clause-part
returns-in-Err-clause-part g c = fewer_of 7 2056 (g.I.Source.left c.args.source.now) (g.I.Source.left c.fill.new.source) (omega arith) c.in-Err.ensures.part

pub returns-in-Err-datagram_head-clause-part : goal.returns-in-Err-datagram_head-clause-part
returns-in-Err-datagram_head-clause-part g c =
    let len : length c.fill.new.into ≡ 7 = c.fill.auto.into in
    fewer_taken c.in-Ok.count 7 2056 (g.I.Source.left c.args.source.now) (g.I.Source.left c.fill.new.source) c.fill.new.into (omega (arith, len, c.in-Ok.ensures.within.0)) len (omega arith) c.in-Ok.ensures.filled.0

pub returns-in-Err-read_octets-clause-part : goal.returns-in-Err-read_octets-clause-part
returns-in-Err-read_octets-clause-part g c =
    let len : length c.fill.new.into ≡ 7 = c.fill.auto.into in
    let first = take c.in-Ok.count c.fill.new.into in
    fewer_behind 2049 2056 (g.I.Source.left c.args.source.now) (g.I.Source.left c.fill.new.source) (g.I.Source.left c.read_octets.new.source) first
    (omega (arith, length-take-le c.in-Ok.count c.fill.new.into (omega (arith, len, c.in-Ok.ensures.within.0)), len, c.in-Ok.ensures.within.0)) c.in-Ok.ensures.filled.0 c.in-Err-read_octets.ensures.part
