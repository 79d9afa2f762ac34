use Rattle.red_payload.proofs.ReadBack.{are_read_back}
use Rattle.red_payload.proofs.Spelled.{are_spelled}
use Rattle.red_payload.proofs.laws.blocks_spell_payloads.Goals as goal

pub returns-clause-spelled : goal.returns-clause-spelled
returns-clause-spelled c = are_spelled

pub returns-clause-read_back : goal.returns-clause-read_back
returns-clause-read_back c = are_read_back
