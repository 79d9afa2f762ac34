use Rattle.player.proofs.Streaming.{Streams-more}
use Rattle.player.proofs.return_stream.ReturnStream.send.Goals as goal

pub returns-clause-goes_on : goal.returns-clause-goes_on
returns-clause-goes_on g c = λ own sequence stamp pieces packets octets frame s codes. Streams-more own sequence stamp pieces packets c.args.self.now c.send_next.new.self _ _ octets frame s codes
