use Rattle.std.proofs.Common.{◌≡◌, ◌∙◌, ℕ, ◌+◌, ◌<◌, suc, List, length, slice_index_or, slice_set, ap, sym, arith}
use Rattle.std.proofs.lemmas.List.{with_items_is}
use Rattle.gate_os.specs.Edges.{SocketState, nanos_of}
use Rattle.gsmgate.specs.Gateway.{begun_at}
use Rattle.gsmgate.proofs.Opening.{mapped, mapped-all, mapped-more}
use Rattle.gsmgate.proofs.gateway.begin_all.Goals as goal

pub loop-link-preserved : goal.loop-link-preserved
loop-link-preserved g c =
    let begun : SocketState → SocketState = begun_at (nanos_of c.args.start) in
    let i : ℕ = c.loop-link.link-index in
    let within : i < length c.args.links.now.items = omega arith in
    let set : SocketState → List SocketState = λ s. slice_set c.loop-link.link-items i s in
    let next : List SocketState → List SocketState = λ xs. slice_set xs i (begun (slice_index_or xs i c.link-item.result)) in
    let more : suc i ≡ i + 1 = omega arith in
    ap set c.begin.ensures ∙ ap next c.loop-link.invariant ∙ mapped-more begun i c.args.links.now.items c.link-item.result within ∙ ap (λ (n : ℕ). mapped begun n c.args.links.now.items) more

pub returns : goal.returns
returns g c =
    let begun : SocketState → SocketState = begun_at (nanos_of c.args.start) in
    let whole : length c.deref_mut-link-items.result.now ≡ length c.args.links.now.items = ap (λ (xs : List SocketState). length xs) c.deref_mut-link-items.ensures.value in
    let long : length c.loop-link.link-items ≡ c.args.links.now.len = c.loop-link.auto.link-items ∙ whole ∙ sym c.args.links.now.ok.0 in
    let end : c.loop-link.link-index ≡ length c.args.links.now.items = omega (arith, whole) in
    with_items_is c.args.links.now c.loop-link.link-items long ∙ c.loop-link.invariant ∙ ap (λ (n : ℕ). mapped begun n c.args.links.now.items) end ∙ mapped-all begun c.args.links.now.items
