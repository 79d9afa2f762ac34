use Rattle.std.proofs.Common.{◌≡◌, ◌∙◌, ℕ, List, Option, length, map, ap, refl, subst, sym}
use Rattle.std.specs.List.{AllByRecursion}
use Rattle.gate_os.specs.Edges.{SocketState, TicksState, lasting, nanos_of}
use Rattle.gsmgate.specs.Gateway.{AreFresh, Begins, IsReply, IsUnheard, begun_at}
use Rattle.gsmgate.proofs.Opening.{all-begun, fresh-begun, reply-begun}
use Rattle.gsmgate.proofs.gateway.go_live.Goals as goal

pub returns-clause-live : goal.returns-clause-live
returns-clause-live g c =
    let ticks : ℕ = c.args.places.now.ticks in
    let count : ℕ = length c.args.places.now.links.items in
    let start : Option ℕ = nanos_of c.now-start.result in
    let bound : List SocketState = c.in_ok-links.links.items in
    let many : List SocketState → List SocketState = λ sockets. map (begun_at start) sockets in
    let links : c.begin_all.new.links.items ≡ many bound = c.begin_all.ensures in
    let clock : start ≡ c.starting.result.begun = sym (ap (λ (s : TicksState). s.begun) c.starting.ensures) in
    let begun : AllByRecursion (Begins start) c.begin_all.new.links.items = subst (λ (sockets : List SocketState). AllByRecursion (Begins start) sockets) (sym links) (all-begun start bound) in
    record {
      links = subst (λ (sockets : List SocketState). AreFresh (lasting ticks) count sockets) (sym links) (fresh-begun (lasting ticks) count start bound c.in_ok-links.ensures);
      reply = subst (λ (s : SocketState). IsReply (lasting ticks) s) (sym c.begin.ensures) (reply-begun (lasting ticks) start c.in_ok-reply.reply c.in_ok-reply.ensures);
      clock = subst (λ (s : TicksState). IsUnheard ticks s) (sym c.starting.ensures) (record { given = refl; left = refl; ended = refl });
      begun = subst (λ (at : Option ℕ). AllByRecursion (Begins at) c.begin_all.new.links.items) clock begun;
      answering = ap (λ (s : SocketState). s.life.begun) c.begin.ensures ∙ clock;
    }
