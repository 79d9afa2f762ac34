use Rattle.std.proofs.Common.{◌∙◌, ap, sym, map}
use Rattle.command_line.specs.Lines.{is_none}
use Rattle.clap.specs.Simple.{App, is_simple, subcommand_of}
use Rattle.clap.specs.Faults.{fault_of, is_simple_and_free}
use Rattle.std.specs.String.{string_bytes}
use Rattle.command_line.proofs.Accepted.{gate_simple, gate_free, refused}
use Rattle.command_line.proofs.read.matches_of.Goals as goal

pub returns-in-Ok-try_get_matches_from-clause-taken :
    goal.returns-in-Ok-try_get_matches_from-clause-taken
returns-in-Ok-try_get_matches_from-clause-taken c =
    let app = c.in-Ok.ensures.app in
    ap (λ (a : App). is_none (fault_of a (map string_bytes c.args.words.now))) (sym app)
    ∙ ap is_none (c.in-Ok-try_get_matches_from.ensures.kinds (ap is_simple_and_free app ∙ gate_free))

pub returns-in-Ok-try_get_matches_from-clause-rows :
    goal.returns-in-Ok-try_get_matches_from-clause-rows
returns-in-Ok-try_get_matches_from-clause-rows c =
    let app = c.in-Ok.ensures.app in
    (c.in-Ok-try_get_matches_from.ensures.matches (ap is_simple app ∙ gate_simple)).1
    ∙ ap (λ (a : App). subcommand_of a (map string_bytes c.args.words.now)) app

pub returns : goal.returns
returns c =
    let app = c.in-Ok.ensures.app in
    record {
      taken = tt;
      rows = tt;
      usage = λ _. ap (λ (a : App). is_none (fault_of a (map string_bytes c.args.words.now))) (sym app)
          ∙ refused _ c.in-Err-try_get_matches_from.error (c.in-Err-try_get_matches_from.ensures.kinds (ap is_simple_and_free app ∙ gate_free)) (λ memory. c.in_default.not-OutOfMemory (c.kind.ensures ∙ memory));
    }
