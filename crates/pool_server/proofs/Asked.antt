-- Calls of who answers, as those of its pass.
use Rattle.std.proofs.Common.{◌≡◌, ℕ, List, [], ◌∷◌, ◌++◌, refl, sym, ap, ◌∙◌}
use Rattle.pool_history.specs.Calls.{PoolCall}
use Rattle.v2_sessions.specs.Answerers.{Acts}
use Rattle.pool_server.specs.Calling.{CallsDesk, PoolPass, faults_after, faults_through}
use Rattle.pool_server.proofs.Calls.{faults_both, goes_both, goes_none}
use Rattle.pool_server.specs.Visits.{Asking, AsksByPass}

module _ {A N : Type 0} (new : A) (name : A → N) (pass : A → PoolPass) (faults : A → ℕ) where
  -- one call of who answers
  abbrev pub Does : A → PoolCall → A → Type 0
  Does before call after = (name after ≡ name before) × (faults after ≡ faults_after (faults before) call.outcome) × CallsDesk (pass before) call (pass after)

  -- they are the calls of the pass, which stays the same one, and the keeper's faults were counted
  pub pass_acts : (old : A) (calls : List PoolCall) → Acts Does old calls new
      → Acts CallsDesk (pass old) calls (pass new) × (name new ≡ name old) × (faults new ≡ faults_through (faults old) calls)
  pass_acts old [] acts = (ap pass acts, ap name acts, ap faults acts)
  pass_acts old (call ∷ calls) acts =
      let middle = acts.0 in
      let first = acts.1 in
      let rest = pass_acts middle calls acts.2 in
      ((pass middle, first.2, rest.0), rest.1 ∙ first.0, rest.2 ∙ ap (λ n. faults_through n calls) first.1)

-- no calls, and calls after calls
pub asks_none : (asking : Asking) → AsksByPass asking [] asking
asks_none asking = record { goes_on = goes_none asking.pass; faults = refl }

pub asks_both : (a b c : Asking) (xs ys : List PoolCall) → AsksByPass a xs b → AsksByPass b ys c → AsksByPass a (xs ++ ys) c
asks_both a b c xs ys first then = record {
  goes_on = goes_both a.pass b.pass c.pass xs ys first.goes_on then.goes_on;
  faults = then.faults ∙ ap (λ n. faults_through n ys) first.faults ∙ sym (faults_both a.faults xs ys);
}
