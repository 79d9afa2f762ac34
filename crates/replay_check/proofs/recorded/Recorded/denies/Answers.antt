use Rattle.std.proofs.Common.{◌≡◌, true, false, arith}
use Rattle.replay_check.proofs.Denied.{denied-at, denied-before, denied-past}
use Rattle.replay_check.proofs.recorded.Recorded.denies.Goals as goal

pub returns-then-number-lt-START : goal.returns-then-number-lt-START
returns-then-number-lt-START c = (λ yes'. absurd (let bad : false ≡ true = yes' in cc), λ denied. absurd (denied-before _ _ c.args.place (omega (arith, c.if-number-lt-START.true)) denied))

pub returns-then-at-len : goal.returns-then-at-len
returns-then-at-len c =
    rw (← c.self.view_is) (denied-at c.self.inside.denials.items _ c.args.number c.args.place c.index.result.now c.self.invariant.denied c.if-number-lt-START.false (omega (arith, c.if-at-len.true, c.len.ensures, c.self.inside.denials.ok.0)) c.index.ensures)

pub returns-else-at-len : goal.returns-else-at-len
returns-else-at-len c =
    rw (← c.self.view_is)
    (λ yes'. absurd (let bad : false ≡ true = yes' in cc), λ denied. absurd (denied-past c.self.inside.denials.items _ c.args.number c.args.place c.self.invariant.denied c.if-number-lt-START.false (omega (arith, c.if-at-len.false, c.len.ensures, c.self.inside.denials.ok.0)) denied))
