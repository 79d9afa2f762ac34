use Rattle.std.proofs.Common.{ℕ, ◌+◌, ◌-◌, ◌<◌, ◌≤◌, subst, arith}
use Rattle.std.specs.Prelude.{slice_index}
use Rattle.ring_core.specs.declared.views.Shape.{Shape}
use Rattle.step_table.proofs.Starting.{shifted, more_slots, fewer_slots, all_there, few_cells}
use Rattle.step_table.proofs.opening.shape_of.Goals as goal

pub bounds-words-g : goal.bounds-words-g
bounds-words-g c =
    let k : Shape = c.requires.0 in let o = c.requires.1 in let g : ℕ = c.loop-g.g in
    let low : g ≤ k.g = c.loop-g.invariant k o in
    fewer_slots k c.args.words.now c.args.cells g o low

pub loop-g-preserved : goal.loop-g-preserved
loop-g-preserved c k o =
    let g : ℕ = c.loop-g.g in
    let low : g ≤ k.g = c.loop-g.invariant k o in
    let few : g ≤ 10 = (let h : k.g ≤ 10 = o.g in omega arith) in
    more_slots k c.args.words.now c.args.cells g o low (subst (λ (i : ℕ). 4294967296 ≤ slice_index c.args.words.now i) (shifted g few).0 c.loop-g-test.true)

pub loop-g-smaller : goal.loop-g-smaller
loop-g-smaller c =
    let k : Shape = c.requires.0 in let o = c.requires.1 in let g : ℕ = c.loop-g.g in
    let next : g + 1 ≤ k.g = loop-g-preserved c k o in
    let few : k.g ≤ 10 = o.g in
    let h : 10 - (g + 1) < 10 - g = omega arith in h

pub overflow_sub-result : goal.overflow_sub-result
overflow_sub-result c =
    let k : Shape = c.requires.0 in let o = c.requires.1 in let g : ℕ = c.loop-g.g in
    (few_cells k c.args.words.now c.args.cells g o (c.loop-g.invariant k o)).0

pub overflow_sub-result-2 : goal.overflow_sub-result-2
overflow_sub-result-2 c =
    let k : Shape = c.requires.0 in let o = c.requires.1 in let g : ℕ = c.loop-g.g in
    (few_cells k c.args.words.now c.args.cells g o (c.loop-g.invariant k o)).1

pub returns : goal.returns
returns c k o =
    let g : ℕ = c.loop-g.g in
    all_there k c.args.words.now c.args.cells g o (c.loop-g.invariant k o) c.loop-g-test.false
