use Rattle.gsmgate.proofs.starting.run_on.Goals as goal

pub returns-in-Serve-clause-serve_write : goal.returns-in-Serve-clause-serve_write
returns-in-Serve-clause-serve_write g c = rw c.in-Serve.is c.run_serve.ensures.write

pub returns-in-Serve-clause-serve_complete : goal.returns-in-Serve-clause-serve_complete
returns-in-Serve-clause-serve_complete g c = rw c.in-Serve.is c.run_serve.ensures.complete
