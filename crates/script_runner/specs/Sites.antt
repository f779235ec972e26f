-- What stands beside one node of the centre.
use Rattle.std.specs.Prelude.{◌≡◌, ℕ, List, ◌++◌, map, slice_get, slice_set, Some}
use Rattle.node_model.specs.Reported.{receipt_of}
use Rattle.waiting_requests.specs.Replying.{reply_given}
use Rattle.world.specs.Runs.{fault_number}
use Rattle.world.specs.declared.fault.WorldFault.{WorldFault}
use Rattle.world.specs.declared.fault.WorldFault.TheVariants.{Memory}
use Rattle.world.specs.declared.given.Given.{Given}
use Rattle.script_site.specs.Sites.{Acts, tells}
use Rattle.script_site.specs.Standing.{HasLeft}
use Rattle.script_site.specs.declared.site.Site.{Site}
use Rattle.script_text.specs.Prints.{declined_line}
use Rattle.script_runner.specs.declared.centre.Centre.{Centre}

-- a line is refused for this, which is told by its number; for want of memory none is
abbrev pub IsRefused : WorldFault → List ℕ → List ℕ → Type 0
IsRefused Memory before after = ⊥
IsRefused fault before after = after ≡ before ++ declined_line (fault_number fault)

-- what stands at a place is another now, and nothing else changed
pub record HasSite (old : Centre) (place : ℕ) (left : Site) (new : Centre) : Type 0 where
  pub sites : new.sites.items ≡ slice_set old.sites.items place left
  pub world : new.world ≡ old.world
  pub arrivals : new.arrivals ≡ old.arrivals

-- there, what a step gave out is told
abbrev pub Tells : Centre → ℕ → Given → Centre → List ℕ → List ℕ → Type 0
Tells old place given new before after =
    (site : Site) → slice_get old.sites.items place ≡ Some site
    → (left : Site) × HasSite old place left new
    × Acts site.node (λ runner. tells runner (map reply_given given.replies.items) (map receipt_of given.receipts.items))
    (record { world = old.world; site = site }) (record { world = old.world; site = left }) before after

-- no session is there any more
abbrev pub Leaves : Centre → ℕ → Centre → List ℕ → List ℕ → Type 0
Leaves old place new before after =
    (site : Site) → slice_get old.sites.items place ≡ Some site → (left : Site) × HasSite old place left new × HasLeft site left before after
