-- A submission that is answered by a Brief rolls just the bytes that it may.
use Rattle.std.proofs.Common.{◌⊎◌, inl, inr, ◌≡◌, ℕ, Bool, true, false, Option, None, Some, List, length, refl, ap, sym, ◌∙◌}
use Rattle.pool_history.specs.declared.events.Event.{Event}
use Rattle.pool_history.specs.declared.refusals.Failed.{Failed}
use Rattle.pool_history.specs.declared.replies.Reply.{Reply}
use Rattle.pool_history.specs.declared.replies.Reply.TheVariants as reply
use Rattle.pool_history.specs.Crediting.{first_failed}
use Rattle.pool_history.specs.Headers.{Briefing, rolled_length}
use Rattle.pool_history.specs.Judging.{Share, share_of}
use Rattle.pool_history.specs.Sessions.{past_of}
use Rattle.history_laws.specs.Answered.{BriefsRoll, IsBriefed, MayNotSubmit, MaySubmit, fails_early}
use Rattle.history_laws.proofs.Entrances.{none-some, some-same}
use Rattle.history_laws.proofs.Judged.{briefed, sessions-needed}
use Rattle.history_laws.proofs.NotesFit.{admission-rolls}

-- the brief in a reply
abbrev brief_in : Reply → Option Briefing
brief_in (reply.Brief brief) = Some brief
brief_in (reply.Refused code) = None
brief_in reply.NoSession = None
brief_in answer = None

by_code : (h : List Event) (worker : ℕ) (may : MaySubmit h worker) (share : Share) (events : List Event) (brief : Briefing)
    → IsBriefed h worker may share events (reply.Brief brief) → (o : Option Failed) → first_failed may.rules (past_of h) may.session share ≡ o
    → (b : Bool) → fails_early o ≡ b → length share.extranonce ≡ rolled_length brief.kind brief.lead
by_code h worker may share events brief is None none b early =
    let t = is.told (ap fails_early none) in
    let same : t.0.channel.kind ≡ brief.kind = ap (λ x. x.kind) (sym (some-same (ap brief_in t.2))) in
    let lead : t.0.channel.lead ≡ brief.lead = ap (λ x. x.lead) (sym (some-same (ap brief_in t.2))) in
    admission-rolls may.rules (past_of h) may.session share t.0 t.1 ∙ ap (λ k. rolled_length k t.0.channel.lead) same ∙ ap (rolled_length brief.kind) lead
by_code h worker may share events brief is (Some code) some true early = absurd (none-some (sym (ap brief_in (is.refused code some early))))
by_code h worker may share events brief is (Some code) some false late_jobs =
    let t = is.told (ap fails_early some ∙ late_jobs) in
    let same : t.0.channel.kind ≡ brief.kind = ap (λ x. x.kind) (sym (some-same (ap brief_in t.2))) in
    let lead : t.0.channel.lead ≡ brief.lead = ap (λ x. x.lead) (sym (some-same (ap brief_in t.2))) in
    admission-rolls may.rules (past_of h) may.session share t.0 t.1 ∙ ap (λ k. rolled_length k t.0.channel.lead) same ∙ ap (rolled_length brief.kind) lead

pub briefs-roll : BriefsRoll
briefs-roll h worker sub events brief a = by_may (sessions-needed h worker) where
  by_may : MaySubmit h worker ⊎ MayNotSubmit h worker → length (share_of sub).extranonce ≡ rolled_length brief.kind brief.lead
  by_may (inl may) =
      by_code h worker may (share_of sub) events brief (briefed h worker may sub events (reply.Brief brief) a)
      (first_failed may.rules (past_of h) may.session (share_of sub)) refl (fails_early (first_failed may.rules (past_of h) may.session (share_of sub))) refl
  by_may (inr not) = absurd (none-some (sym (ap brief_in (not.asking sub events (reply.Brief brief) a).1)))
