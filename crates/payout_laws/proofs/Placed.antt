-- A credit of a legal history is a block by its place.
use Rattle.std.proofs.Common.{◌≡◌, ℕ, Bool, true, false, cond, None, Some, List, [], ◌∷◌, ◌++◌, refl, ap, subst, ◌∙◌}
use Rattle.pool_history.specs.declared.events.Event.{Event}
use Rattle.pool_history.specs.declared.events.Event.TheVariants as event
use Rattle.pool_history.specs.declared.settings.Rules.{Rules}
use Rattle.pool_history.specs.Crediting.{Booked, bookings_of, booking, is_block, reward_of}
use Rattle.pool_history.specs.Judging.{Share}
use Rattle.pool_history.specs.Legal.{Legal}
use Rattle.pool_history.specs.Sessions.{past_of, rules_of}
use Rattle.history_laws.specs.Credited.{IsBookedAfter, share_in}
use Rattle.history_laws.specs.Staying.{CreditsStand}
use Rattle.history_laws.proofs.Crediting.{credits-booked, credits-stay}
use Rattle.history_laws.proofs.Entrances.{none-some}
use Rattle.history_laws.proofs.Legalities.{prefixes_legal, rules-older, up_to}
use Rattle.history_laws.proofs.Placing.{past-middle}
use Rattle.payout_laws.specs.Placed.{BlocksByPlaces}

-- later events change no rules
rules-before : (later : List Event) (x : Event) (older : List Event) → rules_of (later ++ x ∷ older) ≡ rules_of (x ∷ older)
rules-before [] x older = refl
rules-before (e ∷ []) x older = rules-older e x older
rules-before (e ∷ f ∷ later) x older = rules-older e f (later ++ x ∷ older) ∙ rules-before (f ∷ later) x older

rules-later : (later past : List Event) (rules : Rules) → rules_of past ≡ Some rules → rules_of (later ++ past) ≡ Some rules
rules-later later [] rules is = absurd (none-some is)
rules-later later (x ∷ older) rules is = rules-before later x older ∙ is

-- a reward is there exactly where the test holds
reward-there : {b : Bool} (reward : ℕ) → b ≡ true → cond b (Some reward) None ≡ Some reward
reward-there reward h = ap (λ t. cond t (Some reward) None) h

reward-tells : (b : Bool) (reward other : ℕ) → cond b (Some reward) None ≡ Some other → b ≡ true
reward-tells true reward other h = refl
reward-tells false reward other h = absurd (none-some h)

pub blocks_placed : BlocksByPlaces
blocks_placed before after session channel job nonce ntime version extranonce l =
    let credit : Event = event.Credit session channel job nonce ntime version extranonce in
    let share : Share = share_in before channel job nonce ntime version extranonce in
    let was : IsBookedAfter before session share credit =
    credits-booked before session channel job nonce ntime version extranonce
    (prefixes_legal (before ++ credit ∷ []) after (subst Legal (up_to before credit after) l)) in
    let later : CreditsStand (before ++ credit ∷ []) after = credits-stay (before ++ credit ∷ []) after in
    let block : Booked = booking was.rules.pool_script share was.with in
    let reward : ℕ = reward_of was.with.job.source in
    let stands : bookings_of (past_of (before ++ credit ∷ after)) ≡ later.newer ++ block ∷ bookings_of (past_of before) =
    ap (λ h. bookings_of (past_of h)) (up_to before credit after) ∙ later.credits_are ∙ ap (λ credits. later.newer ++ credits) was.counts in
    let rules_are : rules_of (past_of (before ++ credit ∷ after)) ≡ Some was.rules =
    ap rules_of (past-middle before credit after)
    ∙ rules-later (past_of after) (credit ∷ past_of before) was.rules (rules-later (credit ∷ []) (past_of before) was.rules was.are_rules) in
    record {
      was = was;
      exactly = (
        λ is. record { rules_are = rules_are; newer = later.newer; stands = stands; rewarded = reward-there reward is },
        λ of_history. reward-tells (is_block was.rules.pool_script was.with share) reward reward of_history.rewarded,
      );
    }
