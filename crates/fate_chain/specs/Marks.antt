-- What of a decree decides which may follow: who made it and when, and its kind without texts and errors.
use Rattle.std.specs.Prelude.{◌≡◌, ◌<◌, ℕ, [], List, length, slice_get, Some}
use Rattle.mc_model.specs.message.Submission.{Submission}
use Rattle.mc_model.specs.message.Decree.{Kind, Taken, Attempt, Failed, Fate, Told, Decree}
use Rattle.mc_model.specs.message.Chain.{IsPermitted, taken_in, home_in, attempts_in}
use Rattle.fate_chain.specs.Kinds.{author_of, final_of}
use Rattle.fate_chain.specs.declared.marks.Act.{Act}
use Rattle.fate_chain.specs.declared.marks.Act.TheVariants as acts
use Rattle.fate_chain.specs.declared.marks.Mark.{Mark}
use Rattle.fate_chain.specs.declared.marks.Standing.{Standing}
use Rattle.fate_chain.specs.declared.terms.Terms.{Terms}
use Rattle.fate_chain.specs.declared.progress.Progress.{Progress}
use Rattle.fate_chain.specs.declared.progress.Progress.TheVariants as progresses

-- the terms on which a message was taken, and a message of which only these are told
abbrev pub terms_of : Submission → Terms
terms_of message = record { schedule = message.schedule; expiry = message.expiry; registered_delivery = message.registered_delivery }

abbrev pub bare_message : Terms → Submission
bare_message terms = record {
  submitter = [];
  target = [];
  service_type = [];
  source = record { ton = 0; npi = 0; digits = [] };
  destination = record { ton = 0; npi = 0; digits = [] };
  esm_class = 0;
  protocol_id = 0;
  priority_flag = 0;
  registered_delivery = terms.registered_delivery;
  data_coding = 0;
  schedule = terms.schedule;
  expiry = terms.expiry;
  text = [];
  passed = [];
}

-- a kind without texts and errors
abbrev pub bare : Kind → Kind
bare (Taken message) = Taken (bare_message (terms_of message))
bare (Attempt number) = Attempt number
bare (Failed error) = Failed 0
bare (Fate final error) = Fate final 0
bare Told = Told

abbrev pub bare_kind : Act → Kind
bare_kind (acts.Taken terms) = Taken (bare_message terms)
bare_kind (acts.Attempt number) = Attempt number
bare_kind acts.Failed = Failed 0
bare_kind (acts.Fate final) = Fate (final_of final) 0
bare_kind acts.Told = Told

-- the mark is that of the decree
pub record IsMarkOf (decree : Decree) (mark : Mark) : Type 0 where
  pub author : author_of mark.author ≡ decree.author
  pub moment : mark.moment ≡ decree.moment
  pub kind : bare_kind mark.act ≡ bare decree.kind

-- The standing is that of a chain with these decrees, the newest first: the terms on which the message was taken, the node that took it, how
-- often it was attempted, and the newest decree's mark.
pub record IsStandingOf (decrees : List Decree) (standing : Standing) : Type 0 where
  pub message : Submission
  pub taken : taken_in decrees ≡ Some message
  pub terms : standing.terms ≡ terms_of message
  pub home : standing.home ≡ home_in decrees
  pub attempts : standing.attempts ≡ attempts_in decrees
  pub newest : Decree
  pub first : slice_get decrees 0 ≡ Some newest
  pub mark : IsMarkOf newest standing.newest

-- How far decrees, the newest first, have come towards a permitted chain of the id: there is none yet, they are one,
-- or they are none.
abbrev pub IsProgressOf : ℕ → List Decree → Progress → Type 0
IsProgressOf id decrees progresses.Begins = decrees ≡ []
IsProgressOf id decrees (progresses.Stands standing) = IsPermitted id decrees × IsStandingOf decrees standing
IsProgressOf id decrees progresses.Fails = (0 < length decrees) × (IsPermitted id decrees → ⊥)
