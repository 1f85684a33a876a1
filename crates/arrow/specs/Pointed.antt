-- Demand 3 as the checks that a handset makes: whether all of them accept, and what it then knows.
use Rattle.std.specs.Prelude.{◌≡◌, ◌⊎◌, Bool, true, ◌&&◌, List, [], ◌∷◌, eqb}
use Rattle.paper.specs.Bytes.{Bytes}
use Rattle.paper.specs.Labelling.{Labelling}
use Rattle.paper.specs.Lookup.{check_lookup}
use Rattle.paper.specs.History.{check_history}
use Rattle.paper.specs.Audit.{check_audit}
use Rattle.paper.specs.Answer.{lookup_number, history_number, audit_number}
use Rattle.paper.specs.Arrow.{AuditStep, hashed, Collision, Agrees}

-- "each audit step from the head of epoch t up to that head": the head that a run of steps leads to, which is the first where there is none
abbrev pub last_head : Bytes → List AuditStep → Bytes
last_head d [] = d
last_head d (s ∷ more) = last_head s.head more

-- whether each step is accepted, from head to head
abbrev pub steps_accepted : Bytes → List AuditStep → Bool
steps_accepted d [] = true
steps_accepted d (s ∷ more) = eqb (audit_number (check_audit d s.head s.proof)) 0 && steps_accepted s.head more

-- whether the lookup, each step and the history are accepted
unfoldable pub all_accepted : Labelling → Bytes → Bytes → Bytes → List AuditStep → Bytes → Bool
all_accepted lab d name lookup steps history =
    eqb (lookup_number (check_lookup lab d name lookup)) 0
    && (steps_accepted d steps && eqb (history_number (check_history lab (last_head d steps) name history)) 0)

-- what the handset answers, and what a true answer says: "the lookup gave the version and key that the history says was current at t ..
-- The only exception is that two different byte strings among those these checks hashed have the same digest."
pub record Pointed (lab : Labelling) (d name lookup : Bytes) (steps : List AuditStep) (history : Bytes) (answer : Bool) : Type 0 where
  pub is : answer ≡ all_accepted lab d name lookup steps history
  pub says : answer ≡ true → Agrees (check_lookup lab d name lookup) lookup steps (check_history lab (last_head d steps) name history) history ⊎ Collision (hashed lab name lookup steps history)
