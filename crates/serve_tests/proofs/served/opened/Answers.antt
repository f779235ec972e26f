use Rattle.serve_tests.proofs.served.opened.Goals as goal

pub returns : goal.returns
returns g c = c.opened_nodes_begin.ensures.kept c.args.defaults _ c.in-Ok.opened.0.items c.in-Ok.opened.1.items c.in-Ok.ensures.opened
