use Rattle.std.proofs.Common.{arith, ◌∙◌, ◌≡◌, ◌<◌, sym, pos, length, map}
use Rattle.std.proofs.lemmas.List.{ext_get_or, length-map, get_or-map}
use Rattle.rpe_ltp.specs.Pulses.{level_of, pulse_of}
use Rattle.rpe_ltp.proofs.pulses.inverse_apcm.Goals as goal

pub returns : goal.returns
returns c =
    let size : length c.loop-i.values ≡ length (map (pulse_of (level_of c.args.xmaxc)) c.args.xmc.now) = c.loop-i.invariant.size ∙ sym (length-map _ _ ∙ c.told-xmc) in
    ext_get_or (pos 0) c.loop-i.values (map (pulse_of (level_of c.args.xmaxc)) c.args.xmc.now) size
    (λ i h. let inside : i < length c.args.xmc.now = omega (arith, c.loop-i.invariant.size, c.told-xmc) in
    let done : i < c.loop-i.i = omega (arith, c.loop-i.invariant.size) in
    c.loop-i.invariant.done i done ∙ sym (get_or-map (pulse_of (level_of c.args.xmaxc)) c.args.xmc.now i 0 (pos 0) inside))
