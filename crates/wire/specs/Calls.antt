-- The numbers of the calls, as docs/DRIVER.md has them.
use Rattle.std.specs.Prelude.{◌≡◌, ◌≢◌, ℕ, Result, MatchResult}
use Rattle.wire.specs.declared.call.Call.{Call}
use Rattle.wire.specs.declared.call.Call.TheVariants.{Handset, Tree, Server, Proof, Audit}
use Rattle.wire.specs.declared.call.HandsetCall.TheVariants as H
use Rattle.wire.specs.declared.call.TreeCall.TheVariants as T
use Rattle.wire.specs.declared.call.ServerCall.TheVariants as S
use Rattle.wire.specs.declared.call.ProofCall.TheVariants as P

abbrev pub call_number : Call → ℕ
call_number (Handset H.Sha256) = 1
call_number (Handset H.FirstDifference) = 2
call_number (Handset H.HistoryPaths) = 3
call_number (Handset H.CheckLookup) = 4
call_number (Handset H.CheckHistory) = 5
call_number (Handset H.CheckAudit) = 6
call_number (Handset H.Program) = 7
call_number (Tree T.Root) = 8
call_number (Tree T.Path) = 9
call_number (Server S.Start) = 10
call_number (Server S.Publish) = 11
call_number (Proof P.Lookup) = 12
call_number (Proof P.History) = 13
call_number Audit = 14

-- the call that has the number, or none has it
abbrev pub Numbered : {E : Type 0} → ℕ → Result Call E → Type 0
Numbered n result = MatchResult result (λ call. call_number call ≡ n) (λ _. (call : Call) → call_number call ≢ n)
