use Rattle.std.proofs.Common.{sym, ◌∙◌}
use Rattle.rtp_codec.specs.Packets.{packet_of}
use Rattle.filer.specs.Takes.{frames_of}
use Rattle.filer.specs.Journals.{source_events, base_events, end_events}
use Rattle.filer.proofs.Texts.{first_part, gave, gave_part, second_part, third}
use Rattle.filer.proofs.journal.write_outcome.Goals as goal

pub returns-then-is_err-clause-given : goal.returns-then-is_err-clause-given
returns-then-is_err-clause-given g c =
    let o = c.args.outcome.now in
    first_part (g.J.Sink.given c.args.journal.now) (g.J.Sink.given c.write_source.new.journal) (source_events o.source) (base_events o.base) (end_events (frames_of (packet_of c.args.datagram.now).payload) o.end)
    (gave_part _ _ c.write_source.result _ (sym c.is_err.ensures.value ∙ c.if-is_err.true) c.write_source.ensures.given)

pub returns-then-is_err-2-clause-given : goal.returns-then-is_err-2-clause-given
returns-then-is_err-2-clause-given g c =
    let o = c.args.outcome.now in
    let one = gave _ _ c.write_source.result _ (sym c.is_err.ensures.value ∙ c.if-is_err.false) c.write_source.ensures.given in
    second_part (g.J.Sink.given c.args.journal.now) (g.J.Sink.given c.write_source.new.journal) (g.J.Sink.given c.write_base.new.journal) (source_events o.source) (base_events o.base)
    (end_events (frames_of (packet_of c.args.datagram.now).payload) o.end) one
    (gave_part _ _ c.write_base.result _ (sym c.is_err-2.ensures.value ∙ c.if-is_err-2.true) c.write_base.ensures.given)

pub returns-clause-given : goal.returns-clause-given
returns-clause-given g c =
    let o = c.args.outcome.now in
    let one = gave _ _ c.write_source.result _ (sym c.is_err.ensures.value ∙ c.if-is_err.false) c.write_source.ensures.given in
    let two = gave _ _ c.write_base.result _ (sym c.is_err-2.ensures.value ∙ c.if-is_err-2.false) c.write_base.ensures.given in
    third (g.J.Sink.given c.args.journal.now) (g.J.Sink.given c.write_source.new.journal) (g.J.Sink.given c.write_base.new.journal) (g.J.Sink.given c.write_end_of.new.journal) c.write_end_of.result
    (source_events o.source) (base_events o.base) (end_events (frames_of (packet_of c.args.datagram.now).payload) o.end) one two c.write_end_of.ensures.given
