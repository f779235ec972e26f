-- The story of a node that stops between a save and its answer is a run.
use Rattle.std.proofs.Common.{◌≡◌, ℕ, zero, suc, true, false, List, [], ◌∷◌, ◌++◌, None, refl, sym, ap, subst, inl, inr, arith}
use Rattle.std.specs.Prelude.{◌==◌, not}
use Rattle.std.proofs.lemmas.Bool.{not-true}
use Rattle.mc_model.specs.message.Submission.{Submission}
use Rattle.mc_model.specs.synod.Lists.{In}
use Rattle.mc_model.specs.synod.Majority.{Majority, HoldsOf}
use Rattle.mc_model.specs.synod.OneSlot.{Vote}
use Rattle.mc_model.specs.synod.Packet.{Slot, Packet, Voted}
use Rattle.mc_model.specs.node.Actor.{Submit, opening_clock}
use Rattle.mc_model.specs.node.Knowledge.{IsLearned, Knows, KnowsNothing}
use Rattle.mc_model.specs.cluster.World.{IsChosenIn, IsRun, reached}
use Rattle.mc_laws.specs.Stories.{first_id, first_ballot, taken_chain, taken_slot, taken_vote, three_nodes, MayBeTried}
use Rattle.mc_laws.specs.StopStories.{until_promised, until_stopped, until_anew, restart_story}
use Rattle.mc_parts.proofs.Majorities.{both}
use Rattle.mc_parts.proofs.Membership.{in_right}

-- what holds of nodes 1 and 2 holds of a majority of a cluster of three
pub two_of_three : (P : ℕ → Type 0) → P 1 → P 2 → Majority 3 P
two_of_three P one two = record { test = λ node. not (node == 3); most = omega arith; each = each }
  where
    each : HoldsOf 3 (λ node. not (node == 3)) P
    each zero least most passes = absurd (omega (arith, least))
    each (suc zero) least most passes = one
    each (suc (suc zero)) least most passes = two
    each (suc (suc (suc zero))) least most passes = absurd cc
    each (suc (suc (suc (suc node)))) least most passes = absurd (omega (arith, most))

-- ---- the story, part by part

promised_run : (message : Submission) → MayBeTried message → IsRun three_nodes (until_promised message)
promised_run message tried = (
  record { least = omega arith; most = omega arith; up = refl; needs = inl refl },
  (
    record { least = omega arith; most = omega arith; up = refl; needs = inr (inl refl) },
    (
      record { least = omega arith; most = omega arith; up = refl; needs = record { sender = 1; prepared = inl refl; may = omega arith } },
      (
        record { least = omega arith; most = omega arith; up = refl; needs = inr (inl refl) },
        (
          record { least = omega arith; most = omega arith; up = refl; needs = record { sender = 1; prepared = inl refl; may = omega arith } },
          (
            record { least = omega arith; most = omega arith; up = refl; needs = inl refl },
            (
              record { least = omega arith; most = omega arith; up = refl; needs = (refl, refl) },
              (
                record {
                  least = omega arith;
                  most = omega arith;
                  up = refl;
                  needs = record {
                    next = refl;
                    room = refl;
                    fit = record {
                      serial = record { least = omega arith; most = omega arith };
                      id_is = refl;
                      takes = record {
                        node = refl;
                        incarnation = refl;
                        expiry = tried.valid;
                        schedule = let s = tried.scheduled in let v = tried.valid in
                            omega (arith, s, v);
                      };
                    };
                  };
                },
                tt,
              ),
            ),
          ),
        ),
      ),
    ),
  ),
)

stopped_run : (message : Submission) → MayBeTried message → IsRun three_nodes (until_stopped message)
stopped_run message tried = (
  record { least = omega arith; most = omega arith; up = refl; needs = tt },
  (
    record { least = omega arith; most = omega arith; up = refl; needs = record { sender = 1; proposed = inl refl; may = omega arith } },
    (
      record { least = omega arith; most = omega arith; up = refl; needs = inl refl },
      (
        record {
          least = omega arith;
          most = omega arith;
          up = refl;
          needs = record {
            proposer = refl;
            incarnation = refl;
            once = λ chain is_in. elim is_in [ inl prepared ↦ cc | inr none ↦ absurd none ];
            justified = record {
              highest = None;
              majority = two_of_three _ (record { report = None; made = inr (inl refl); within = tt }) (record { report = None; made = inl refl; within = tt });
              carried = tt;
            };
            free = inr (
              refl,
              inl (record {
                waiting = record
                    { ticket = 1; since = opening_clock; request = Submit first_id message; settled = false };
                message = message;
                waits =
                    inl refl;
                submits = refl;
                chain_is = refl;
              }),
            );
          };
        },
        promised_run message tried,
      ),
    ),
  ),
)

anew_run : (message : Submission) → MayBeTried message → IsRun three_nodes (until_anew message)
anew_run message tried = (
  record { least = omega arith; most = omega arith; up = refl; needs = inl refl },
  (
    record { least = omega arith; most = omega arith; up = refl; needs = record { sender = 1; proposed = inl refl; may = omega arith } },
    (
      record { least = omega arith; most = omega arith; up = refl; needs = inl refl },
      (record { least = omega arith; most = omega arith; up = tt; needs = omega arith }, stopped_run message tried),
    ),
  ),
)

-- node 2 voted before it stopped
pub chosen_anew : (message : Submission) → IsChosenIn (reached three_nodes (until_anew message)) taken_slot (taken_vote message)
chosen_anew message = two_of_three _ (inl refl) (inr (inl refl))

-- ---- what node 1 knows in the end

abbrev heard : Submission → List Packet
heard message = (Voted 2 taken_slot (taken_vote message)) ∷ ((reached three_nodes (until_anew message)).actors 1).received

-- every vote that it was told of is the one
told_one : (message : Submission) (acceptor : ℕ) (slot : Slot) (vote : Vote) → In (Voted acceptor slot vote) (heard message) →
    (slot ≡ taken_slot) × (vote ≡ taken_vote message)
told_one message acceptor slot vote is_in = elim is_in [
  | inl second ↦ (cc, cc)
  | inr earlier ↦ elim earlier [
    | inl first ↦ (cc, cc)
    | inr others ↦ elim others [
      | inl proposed ↦ cc
      | inr promises ↦ elim promises [
        | inl promised ↦ cc
        | inr own ↦ elim own [
          | inl promised ↦ cc
          | inr last ↦ elim last [ inl prepared ↦ cc | inr none ↦ absurd none ]
        ]
      ]
    ]
  ]
]

-- so it is of whatever a majority told
learned_one : (message : Submission) (newer older : List Packet) (slot : Slot) (vote : Vote) → heard message ≡ newer ++ older →
    IsLearned 3 older slot vote →
    (slot ≡ taken_slot) × (vote ≡ taken_vote message)
learned_one message newer older slot vote is learned =
    let told = both 3 _ _ learned learned in
    told_one message told.node slot vote (subst (λ (packets : List Packet). In (Voted told.node slot vote) packets) (sym is) (in_right _ newer older told.one))

knows_taken : (message : Submission) → Knows 3 (heard message) first_id (taken_chain message)
knows_taken message = record {
  ballot = first_ballot;
  learned = two_of_three _ (inr (inl refl)) (inl refl);
  longest = λ place vote learned. let same = ap (λ (s : Slot). s.place) (learned_one message [] (heard message) _ vote refl learned).0 in omega (arith, same);
  first = λ newer older vote is learned. (
    first_ballot,
    subst (λ (v : Vote). IsLearned 3 older taken_slot v)
        (learned_one message newer older taken_slot vote is learned).1 learned,
  );
}

-- ---- all of it

pub restart_run : (message : Submission) → MayBeTried message → IsRun three_nodes (restart_story message)
restart_run message tried = (
  record {
    least = omega arith;
    most = omega arith;
    up = refl;
    needs = record {
      asked = record {
        waiting = record { ticket = 1; since = opening_clock; request = Submit first_id message; settled = false };
        waits =
            inl refl;
        ticket_is = refl;
        about = refl;
      };
      fits = record { chain = taken_chain message; known = knows_taken message };
    };
  },
  (
    record { least = omega arith; most = omega arith; up = refl; needs = inl refl },
    (
      record { least = omega arith; most = omega arith; up = refl; needs = record { sender = 1; proposed = inl refl; may = omega arith } },
      (record { least = omega arith; most = omega arith; up = refl; needs = inr (inl refl) }, anew_run message tried),
    ),
  ),
)

others : Majority 3 (λ node. (node == 1) ≡ false)
others = record { test = λ node. not (node == 1); most = omega arith; each = λ node least most passes. not-true (node == 1) passes }

only_own : (message : Submission) (acceptor : ℕ) (slot : Slot) (vote : Vote) →
    In (Voted acceptor slot vote) ((reached three_nodes (until_anew message)).actors 1).received →
    acceptor ≡ 1
only_own message acceptor slot vote is_in = elim is_in [
  | inl first ↦ cc
  | inr others ↦ elim others [
    | inl proposed ↦ cc
    | inr promises ↦ elim promises [
      | inl promised ↦ cc
      | inr own ↦ elim own [
        | inl promised ↦ cc
        | inr last ↦ elim last [ inl prepared ↦ cc | inr none ↦ absurd none ]
      ]
    ]
  ]
]

pub unknown_anew : (message : Submission) → KnowsNothing 3 ((reached three_nodes (until_anew message)).actors 1).received first_id
unknown_anew message place vote learned =
    let told = both 3 _ (λ node. (node == 1) ≡ false) learned others in
    let same = only_own message told.node _ vote told.one in
    absurd (one_is_one (subst (λ (n : ℕ). (n == 1) ≡ false) same told.other))
  where
    one_is_one : true ≡ false → ⊥
    one_is_one is = cc
