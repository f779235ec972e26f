use Rattle.accounts.proofs.Longest.{found_is_longest, longest_is_found, none_fits}
use Rattle.accounts.proofs.laws.route_is_the_longest.Goals as goal

pub returns-clause-longest : goal.returns-clause-longest
returns-clause-longest c = λ routes destination route distinct. (found_is_longest routes destination route, longest_is_found routes destination route distinct)

pub returns-clause-none : goal.returns-clause-none
returns-clause-none c = none_fits
