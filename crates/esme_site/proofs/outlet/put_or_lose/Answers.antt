use Rattle.std.proofs.Common.{ℕ, [], ◌∷◌, subst}
use Rattle.esme_site.proofs.outlet.put_or_lose.Goals as goal

pub returns-in-Err-clause-err : goal.returns-in-Err-clause-err
returns-in-Err-clause-err g c =
    subst (λ (n : ℕ). g.O.Outlet.puts c.args.outlet.now [] (n ∷ []) c.lose.new.self) c.number.ensures
    (g.met.O.Outlet.follows c.args.outlet.now c.put.new.self c.lose.new.self [] [] [] (c.number.result ∷ []) c.in-Err.ensures.err c.lose.ensures)
