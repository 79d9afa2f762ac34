use Rattle.std.proofs.Common.{length, take, sym, ap, ◌∙◌, ◌≡◌, ◌+◌, refl, arith}
use Rattle.std.proofs.lemmas.List.{length-take-le}
use Rattle.rtp_codec.specs.Packets.{head_octets}
use Rattle.rtp_codec.proofs.Written.{put_after}
use Rattle.rtp_codec.proofs.write.write_rtp.Goals as goal

pub copy_from_slice-requires : goal.copy_from_slice-requires
copy_from_slice-requires c =
    let h : length (take 12 c.args.into.now) ≡ 12 = length-take-le 12 c.args.into.now (omega arith) in
    h ∙ sym (ap length c.head_octets.ensures)

pub returns-clause-written : goal.returns-clause-written
returns-clause-written c =
    put_after 12 (12 + length c.args.payload.now) c.args.into.now (head_octets c.args.head.now) _ c.args.payload.now _ refl refl
    (c.copy_from_slice.ensures.after ∙ c.head_octets.ensures) c.copy_from_slice-2.ensures.after
