-- Requests that wait on sessions came there in the octets of lines.
use Rattle.std.proofs.Common.{◌≡◌, ◌⊎◌, ℕ, ◌≤◌, List, [], ◌∷◌, ◌++◌, Some, None, refl, sym, ◌∙◌, ap, subst, inl, inr, append_assoc, append-nil}
use Rattle.mc_model.specs.synod.Lists.{In}
use Rattle.mc_model.specs.node.Actor.{Request}
use Rattle.mc_model.specs.node.Outputs.{Reply}
use Rattle.node_laws.specs.Clusters.{MayHappen}
use Rattle.accounts.specs.declared.route.Route.{Route}
use Rattle.pdu_bodies.specs.declared.pdu.Body.{Body}
use Rattle.pdu_bodies.specs.declared.pdu.Body.TheVariants as bodies
use Rattle.pdu_bodies.specs.declared.pdu.Pdu.{Pdu}
use Rattle.sessions.specs.Session.{Session}
use Rattle.sessions.specs.declared.request.OpenRequest.{OpenRequest}
use Rattle.desk.specs.declared.request.Request.{Request as Asked}
use Rattle.script_text.specs.Runner.{request_of}
use Rattle.script_text.specs.Settings.{Settings}
use Rattle.script_text.specs.Prints.{Gone}
use Rattle.script_text.specs.Prints.{At, WorldPrint}
use Rattle.script_text.specs.Script.{Joins, Stepped, step_of}
use Rattle.script_text.specs.World.{NodeInput, World, opened, runner_at}
use Rattle.world_fates.proofs.node.Behind.{behind}
use Rattle.world_fates.specs.Questions.{IsAskedAt}
use Rattle.world_fates.specs.Requests.{EndsIn, HasCome, IsRequest}
use Rattle.world_fates.proofs.Printing.{JoinsSo, WorldSo, first_so, joined_so}
use Rattle.world_fates.proofs.Given.{GivenFrom, given_takes, given_telling}
use Rattle.world_fates.proofs.Entries.{AreApart}
use Rattle.world_fates.proofs.Lines.{AreSound, line_leads, opened_apart}
use Rattle.world_fates.proofs.LaterLines.{line_well}
use Rattle.world_fates.proofs.Fresh.{Saying, Waited, waits_well}
use Rattle.world_fates.proofs.Answering.{GoesWell, lines_lead, stays_more}
use Rattle.world_fates.proofs.LineEnds.{line_ends}

-- each request that waits in a world came by the lines that lead there
pub record AllCame (settings : Settings) (lines : List (List ℕ)) (world : World) : Type 0 where
  pub sound : AreSound world
  pub came : (node : ℕ) → 1 ≤ node → (session sequence : ℕ) → IsAskedAt world node session sequence → HasCome settings lines world node session sequence

-- by a line it came on a session
record ComesNow (world : World) (line : List ℕ) (node session sequence : ℕ) : Type 0 where
  pdu : Pdu
  ends : EndsIn world line node session pdu
  request : IsRequest pdu.body
  sequence_is : pdu.sequence ≡ sequence

is_request : (routes : List Route) (body : Body) (wish : Asked) → request_of routes body ≡ Some wish → IsRequest body
is_request routes (bodies.SubmitSm message) wish is = tt
is_request routes (bodies.QuerySm query) wish is = tt
is_request routes (bodies.CancelSm cancel) wish is = tt
is_request routes other wish is = absurd cc

opened_came : (settings : Settings) (before : List (List ℕ)) (count serial : ℕ) → AllCame settings before (opened settings count serial)
opened_came settings before count serial = record {
  sound = λ node least runner is.
      subst (λ (connected : List (ℕ × Session)). AreApart connected) (sym (opened_apart settings count serial node runner is)) tt;
  came = λ node least session sequence asks.
      absurd (subst (λ (connected : List (ℕ × Session)). In (session, asks.session) connected)
      (opened_apart settings count serial node asks.runner asks.there) asks.connected);
}

pub the_world : (one other : World) → Some one ≡ Some other → one ≡ other
the_world one other is = cc

module _ (settings : Settings) (before : List (List ℕ)) (came : List NodeInput) (prints : List WorldPrint) (world : World)
    (joins : Joins settings None before came prints (Some world)) (line : List ℕ) (done : Stepped)
    (does : step_of settings (Some world) line ≡ Some done) where
  so : WorldSo settings GivenFrom given_telling given_takes came world prints
  so = first_so settings GivenFrom given_telling given_takes before came prints (Some world) joins

  rest : JoinsSo so.cluster (GivenFrom so.cluster) so.past (done.inputs ++ []) (done.prints ++ []) done.next
  unfolding Joins
  rest =
      joined_so settings so.cluster (GivenFrom so.cluster) (given_telling so.cluster) (given_takes so.cluster) (line ∷ []) so.past world so.stands
      (done.inputs ++ []) (done.prints ++ []) done.next (done, [], [], does, refl, refl, (refl, refl, refl))

  may : MayHappen so.cluster (behind done.inputs so.past)
  may = subst (MayHappen so.cluster) (rest.later_is ∙ ap (λ (i : List NodeInput). behind i so.past) (append-nil done.inputs)) rest.stands.fit.may

  -- it came earlier, and its session stays, or it came by this line
  came_before : (next : World) → done.next ≡ Some next → (node session sequence : ℕ) → HasCome settings before world node session sequence →
      (In (At node (Gone session)) done.prints → ⊥) → HasCome settings (before ++ line ∷ []) next node session sequence
  came_before next stage node session sequence it ungone = record {
    before = it.before;
    line = it.line;
    later = it.later ++ line ∷ [];
    lines_are = ap (λ (front : List (List ℕ)). front ++ line ∷ []) it.lines_are ∙ append_assoc it.before (it.line ∷ it.later) (line ∷ []);
    world = it.world;
    done = it.done;
    said = it.said;
    pdu = it.pdu;
    ends = it.ends;
    request = it.request;
    sequence_is = it.sequence_is;
    stays = stays_more settings it.done.next it.later world node session it.stays line done does next stage ungone;
  }

  came_now : (next : World) → done.next ≡ Some next → (node session sequence : ℕ) → ComesNow world line node session sequence →
      HasCome settings (before ++ line ∷ []) next node session sequence
  unfolding Joins
  came_now next stage node session sequence it = record {
    before = before;
    line = line;
    later = [];
    lines_are = refl;
    world = world;
    done = done;
    said = record { came = came; prints = prints; joins = joins; does = does };
    pdu = it.pdu;
    ends = it.ends;
    request = it.request;
    sequence_is = it.sequence_is;
    stays = record { came = []; prints = []; joins = (refl, refl, sym stage); stays = λ among. among };
  }

  module _ (node : ℕ) (least : 1 ≤ node) where
    abbrev Came : ℕ → ℕ → Request → Type 0
    Came session sequence request = ComesNow world line node session sequence

    abbrev Anyhow : ℕ → OpenRequest → Reply → Type 0
    Anyhow number waits reply = Unit {0}

    anyhow : Saying so.cluster node so.past (Waited world node) Came Anyhow
    anyhow front past is input number waits come happens reply same among = tt

    waited_or_came : (next : World) → done.next ≡ Some next → (session sequence : ℕ) → IsAskedAt next node session sequence →
        IsAskedAt world node session sequence ⊎ ComesNow world line node session sequence
    waited_or_came next stage session sequence asks =
        let it = line_well so.cluster node least so.past (Waited world node) Came Anyhow anyhow settings so.past world
        (waits_well so.cluster so.past world so.stands node least Came Anyhow anyhow) line
        (λ number pdu ends wish is door other account request admits. record {
          pdu = pdu;
          ends = ends;
          request = is_request settings.routes pdu.body wish is;
          sequence_is = refl;
        }) done does may in
        let there = ap (λ (w : World). runner_at w node) (the_world it.next next (sym it.stage_is ∙ stage)) ∙ asks.there in
        elim ((it.well asks.runner there).came session asks.request (record { session = asks.session; there = asks.connected; among = asks.waits })) [
          | inl waited ↦ inl (record {
            runner = waited.0;
            there = waited.1;
            session = waited.2.session;
            connected = waited.2.there;
            request = asks.request;
            waits = waited.2.among;
            sequence_is = asks.sequence_is;
          })
          | inr on ↦ inr (subst (ComesNow world line node session) asks.sequence_is on.asked)
        ]

  one_more : AllCame settings before world → GoesWell (AllCame settings) (before ++ line ∷ []) done.next
  one_more all =
      let leads = line_leads settings world all.sound line done does in
      let ends = line_ends settings world all.sound line done does in
      subst (GoesWell (AllCame settings) (before ++ line ∷ [])) (sym leads.stage_is)
      (record {
        sound = leads.sound;
        came = λ node least session sequence asks.
            elim (waited_or_came node least leads.next leads.stage_is session sequence asks) [
              | inl earlier ↦
                  came_before leads.next leads.stage_is node session sequence (all.came node least session sequence earlier)
                  (λ among. ends.gone node least session among asks.runner
                  (ap (λ (w : World). runner_at w node) (the_world ends.next leads.next (sym ends.stage_is ∙ leads.stage_is)) ∙ asks.there)
                  (record { value = asks.session; among = asks.connected }))
              | inr now ↦ came_now leads.next leads.stage_is node session sequence now
            ];
      })

pub all_came : (settings : Settings) (lines : List (List ℕ)) (came : List NodeInput) (prints : List WorldPrint) (world : World) →
    Joins settings None lines came prints (Some world) → AllCame settings lines world
all_came settings lines came prints world joins =
    lines_lead settings (AllCame settings) (opened_came settings) (one_more settings) lines came prints (Some world) joins

pub waiting_came : (settings : Settings) (lines : List (List ℕ)) (came : List NodeInput) (prints : List WorldPrint) (world : World)
    (node session sequence : ℕ) → Joins settings None lines came prints (Some world) → 1 ≤ node → IsAskedAt world node session sequence →
    HasCome settings lines world node session sequence
waiting_came settings lines came prints world node session sequence joins least asks =
    (all_came settings lines came prints world joins).came node least session sequence asks
