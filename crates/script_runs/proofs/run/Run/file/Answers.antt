use Rattle.std.proofs.Common.{List, ℕ, [], ◌∷◌, refl, sym, subst, append-nil}
use Rattle.std.specs.Io.KnownBytes.{Appends}
use Rattle.gate_io.specs.Flow.{AppendsPart}
use Rattle.playout.specs.declared.call.Call.TheVariants.{FileCall}
use Rattle.playout.specs.History.{entry}
use Rattle.script_runs.specs.Calls.{bare}
use Rattle.gate_notes.specs.Notes.{reply_line}
use Rattle.script_runs.specs.declared.run.Run.{Run}
use Rattle.script_runs.proofs.Events.{calls_of-other, file_applies}
use Rattle.script_runs.proofs.run.Run.file.Goals as goal

pub returns-in-Ok-clause-applied : goal.returns-in-Ok-clause-applied
returns-in-Ok-clause-applied g c =
    let old = c.args.self in
    let number = c.args.number in
    let frame = c.args.frame.now in
    let reply = c.file-reply.result in
    let given = g.E.Sink.given in
    let new : Run = record { line = c.file-reply.new.self; filers = old.filers; opened = old.opened; played = old.played; filed = c.reply.new.self } in (
      new,
      bare (entry c.args.caller (FileCall number frame reply) ∷ []),
      file_applies old new c.args.caller number frame reply c.requires.caller (c.file-reply.ensures.reply, c.file-reply.ensures.after) refl refl refl c.reply.ensures,
      refl,
      calls_of-other old.line.filers c.args.caller (FileCall number frame reply) c.requires.caller,
      subst (λ (l : List ℕ). Appends (given c.args.notes.now) (given c.give_reply.new.notes) l) (sym (append-nil (reply_line c.args.caller number reply))) c.in-Ok.ensures.given,
    )

pub returns-in-Err-clause-applied : goal.returns-in-Err-clause-applied
returns-in-Err-clause-applied g c =
    let old = c.args.self in
    let number = c.args.number in
    let frame = c.args.frame.now in
    let reply = c.file-reply.result in
    let given = g.E.Sink.given in
    let new : Run = record { line = c.file-reply.new.self; filers = old.filers; opened = old.opened; played = old.played; filed = c.reply.new.self } in (
      new,
      bare (entry c.args.caller (FileCall number frame reply) ∷ []),
      file_applies old new c.args.caller number frame reply c.requires.caller (c.file-reply.ensures.reply, c.file-reply.ensures.after) refl refl refl c.reply.ensures,
      tt,
      calls_of-other old.line.filers c.args.caller (FileCall number frame reply) c.requires.caller,
      subst (λ (l : List ℕ). AppendsPart (given c.args.notes.now) (given c.give_reply.new.notes) l) (sym (append-nil (reply_line c.args.caller number reply))) c.in-Err.ensures.given,
    )
