use Rattle.std.proofs.Common.{◌≡◌, ℕ, ◌∷◌, ◌++◌, slice_index, take, drop, sym, ap, ◌∙◌, arith}
use Rattle.byteorder.specs.Endian.{big_bytes, big_number}
use Rattle.recorder.proofs.Spelled.{datagram_spelled}
use Rattle.recorder.proofs.fields.datagram_head.Goals as goal

pub returns-clause-text : goal.returns-clause-text
returns-clause-text c =
    let fields = c.args.fields.now in
    let spelled = datagram_spelled fields (omega arith) (λ i. omega (arith, c.type_inv.fields i)) in
    let at : c.read_u32-at.result ≡ big_number 4 (take 4 (drop 1 fields)) = c.read_u32-at.ensures in
    let len : c.read_u16-length.result ≡ big_number 2 (take 2 (drop 5 fields)) = c.read_u16-length.ensures in
    sym (ap (λ (n : ℕ). slice_index fields 0 ∷ (big_bytes 4 n ++ big_bytes 2 c.read_u16-length.result)) at ∙ ap (λ (n : ℕ). slice_index fields 0 ∷ (big_bytes 4 (big_number 4 (take 4 (drop 1 fields))) ++ big_bytes 2 n)) len ∙ spelled)
