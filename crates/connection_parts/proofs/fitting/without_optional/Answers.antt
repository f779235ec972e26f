-- Octets that are those of a deliver_sm are read as it.
use Rattle.std.proofs.Common.{◌≡◌, true, subst, option_map, IfOk}
use Rattle.pdu_bodies.specs.declared.pdu.Pdu.{Pdu}
use Rattle.esme_service.specs.Pushes.{deliver_sm}
use Rattle.connection_parts.specs.Fitting.{fitted}
use Rattle.connection_parts.proofs.fitting.without_optional.Goals as goal

pub returns-in-Ok-clause-delivery : goal.returns-in-Ok-clause-delivery
returns-in-Ok-clause-delivery c sequence message fits spelled =
    let same : c.in-Ok.pdu ≡ deliver_sm sequence true message = cc (c.in-Ok.ensures.only (deliver_sm sequence true message) fits spelled) in
    subst (λ (pdu : Pdu). IfOk c.fitted.result (λ made. option_map (λ vec. vec.items) made ≡ fitted pdu)) same c.fitted.ensures
