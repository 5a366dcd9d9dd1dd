-- What was put by polls is what was owed.
use Rattle.std.proofs.Common.{◌≡◌, ℕ, ◌+◌, Bool, true, false, Option, None, Some, List, [], ◌∷◌, ◌++◌, length, drop, refl, ap, sym, subst, ◌∙◌, append_assoc, append-nil, inl, inr}
use Rattle.std.proofs.lemmas.List.{drop_at, length-append}
use Rattle.std.specs.Prelude.{if◌then◌else◌}
use Rattle.std.specs.declared.alloc.AllocError.{AllocError}
use Rattle.pool_base.specs.Calls.{IsGoodCall, IsOutcome, Outcome}
use Rattle.pool_base.specs.Lists.{Begins}
use Rattle.pool_base.proofs.Behind.{its-front}
use Rattle.session_steps.specs.declared.ends.SessionEnd.{SessionEnd}
use Rattle.proxy_rules.specs.declared.events.ProxyEvent.{ProxyEvent}
use Rattle.proxy_rules.specs.declared.requests.ProxyReply.{ProxyReply}
use Rattle.proxy_rules.specs.declared.requests.ProxyReply.TheVariants as reply
use Rattle.proxy_rules.specs.declared.requests.ProxyRequest.{ProxyRequest}
use Rattle.proxy_rules.specs.declared.requests.ProxyRequest.TheVariants as request
use Rattle.proxy_rules.specs.Answering.{ProxyAnswers}
use Rattle.proxy_rules.specs.Outputs.{output_for}
use Rattle.proxy_server.specs.Calls.{GoodProxyCalls, ProxyCall, RepliesSo, wants_memory}
use Rattle.proxy_server.specs.Links.{IsPutEnd}
use Rattle.pool_promises.specs.Puts.{IsOutputUpTo, is_polled, is_reply_to_poll, last_polled, output_at_call, polled_or}
use Rattle.pool_promises.proofs.Outputs.{begins_after}
use Rattle.pool_promises.proofs.Polls.{AreQuiet, PutsPolls}

abbrev bytes_of : ProxyReply → List ℕ
bytes_of (reply.Bytes bytes) = bytes
bytes_of reply.Taken = []
bytes_of reply.NotJoined = []
bytes_of reply.Again = []

none_last : (calls : List ProxyCall) → AreQuiet calls → last_polled calls ≡ None
none_last [] none = refl
none_last (call ∷ calls) none =
    ap (λ (o : Option ProxyCall). polled_or o call) (none_last calls none.1) ∙ ap (λ (b : Bool). if b then Some call else None) none.0.0

is_poll : (call : ProxyCall) (from : ℕ) (answer : ProxyReply) → RepliesSo (request.Poll from) answer call → is_polled call ≡ true
is_poll call from answer so =
    ap (λ (r : ProxyRequest). is_reply_to_poll r call.outcome) so.0 ∙ ap (λ (o : Outcome ProxyReply AllocError). is_reply_to_poll (request.Poll from) o) so.1

module _ (events : List ProxyEvent) where
  abbrev owed_at : ProxyCall → List ℕ
  owed_at call = output_at_call events call

  -- what is owed only grows, from this on
  abbrev pub GrowsFrom : List ℕ → List ProxyCall → Type 0
  GrowsFrom owed [] = Unit {0}
  GrowsFrom owed (call ∷ calls) = Begins owed (owed_at call) × GrowsFrom (owed_at call) calls

  poll_answer : (call : ProxyCall) (cursor : ℕ) (news : List ℕ) → IsGoodCall ProxyAnswers wants_memory events call → RepliesSo (request.Poll cursor) (reply.Bytes news) call
      → news ≡ drop cursor (owed_at call)
  poll_answer call cursor news good so =
      let replied : ProxyAnswers good.before call.worker call.asked call.added (reply.Bytes news) =
      subst (λ (o : Outcome ProxyReply AllocError). IsOutcome ProxyAnswers wants_memory good.before call o) so.1 good.outcome in
      let polled : ProxyAnswers good.before call.worker (request.Poll cursor) call.added (reply.Bytes news) =
      subst (λ (r : ProxyRequest). ProxyAnswers good.before call.worker r call.added (reply.Bytes news)) so.0 replied in
      ap bytes_of polled.replies
      ∙ ap (λ (before : List ProxyEvent). drop cursor (output_for before call.worker)) (sym (its-front ProxyAnswers wants_memory events call good))

  -- behind what was put so far
  abbrev pub Owes : SessionEnd → List ℕ → List ℕ → Option ProxyCall → Type 0
  Owes reason so_far bytes None = bytes ≡ []
  Owes reason so_far bytes (Some call) = Begins (so_far ++ bytes) (owed_at call) × ((IsPutEnd reason → ⊥) → so_far ++ bytes ≡ owed_at call)

  module _ (reason : SessionEnd) where
    skipped : (so_far bytes : List ℕ) (call : ProxyCall) (last : Option ProxyCall) → is_polled call ≡ false → Owes reason so_far bytes last → Owes reason so_far bytes (polled_or last call)
    skipped so_far bytes call None none owes =
        subst (λ (b : Bool). Owes reason so_far bytes (if b then Some call else None)) (sym none) owes
    skipped so_far bytes call (Some later) none owes = owes

    taken : (so_far news rest : List ℕ) (call : ProxyCall) (last : Option ProxyCall) → is_polled call ≡ true → so_far ++ news ≡ owed_at call
        → Owes reason (so_far ++ news) rest last → Owes reason so_far (news ++ rest) (polled_or last call)
    taken so_far news rest call None is whole owes =
        let all : so_far ++ (news ++ rest) ≡ owed_at call = ap (λ (l : List ℕ). so_far ++ (news ++ l)) owes ∙ ap (λ (l : List ℕ). so_far ++ l) (append-nil news) ∙ whole in
        subst (λ (b : Bool). Owes reason so_far (news ++ rest) (if b then Some call else None)) (sym is) (([], append-nil (so_far ++ (news ++ rest)) ∙ all), λ well. all)
    taken so_far news rest call (Some later) is whole owes =
        let same : so_far ++ (news ++ rest) ≡ (so_far ++ news) ++ rest = sym (append_assoc so_far news rest) in
        (subst (λ (l : List ℕ). Begins l (owed_at later)) (sym same) owes.0, λ well. same ∙ owes.1 well)

    cut_short : (so_far news bytes : List ℕ) (call : ProxyCall) → is_polled call ≡ true → so_far ++ news ≡ owed_at call → Begins bytes news → IsPutEnd reason
        → Owes reason so_far bytes (polled_or None call)
    cut_short so_far news bytes call is whole front cut =
        subst (λ (b : Bool). Owes reason so_far bytes (if b then Some call else None)) (sym is) (
          (front.0, append_assoc so_far bytes front.0 ∙ ap (λ (l : List ℕ). so_far ++ l) front.1 ∙ whole),
          λ well. absurd (well cut),
        )

    -- what was put so far is a front of what was owed
    pub owed : (calls : List ProxyCall) (before so_far bytes : List ℕ) (cursor : ℕ) → GoodProxyCalls events calls → GrowsFrom before calls
        → Begins so_far before → length so_far ≡ cursor → PutsPolls (IsPutEnd reason) cursor calls bytes → Owes reason so_far bytes (last_polled calls)
    owed [] before so_far bytes cursor good grows begins at puts = puts
    owed (call ∷ calls) before so_far bytes cursor good grows begins at puts =
        let front : Begins so_far (owed_at call) = begins_after so_far before (owed_at call) begins grows.0 in
        let behind : (news : List ℕ) → RepliesSo (request.Poll cursor) (reply.Bytes news) call → so_far ++ news ≡ owed_at call = λ news so.
        ap (λ (l : List ℕ). so_far ++ l) (poll_answer call cursor news good.0 so ∙ ap (drop cursor) (sym front.1) ∙ drop_at so_far front.0 cursor at) ∙ front.1 in
        elim puts [
          | inl skips ↦ skipped so_far bytes call (last_polled calls) skips.0.0 (owed calls (owed_at call) so_far bytes cursor good.1 grows.1 front at skips.1)
          | inr (inl takes) ↦
              let news = takes.0 in
              let whole = behind news takes.2 in
              let longer : length (so_far ++ news) ≡ cursor + length news = length-append so_far news ∙ ap (λ n. n + length news) at in
              subst (λ (l : List ℕ). Owes reason so_far l (polled_or (last_polled calls) call)) (sym takes.3)
              (taken so_far news takes.1 call (last_polled calls) (is_poll call cursor (reply.Bytes news) takes.2) whole
              (owed calls (owed_at call) (so_far ++ news) takes.1 (cursor + length news) good.1 grows.1 ([], append-nil (so_far ++ news) ∙ whole) longer takes.4))
          | inr (inr cuts) ↦
              let whole = behind cuts.0 cuts.1 in
              subst (λ (o : Option ProxyCall). Owes reason so_far bytes (polled_or o call)) (sym (none_last calls cuts.3))
              (cut_short so_far cuts.0 bytes call (is_poll call cursor (reply.Bytes cuts.0) cuts.1) whole cuts.2 cuts.4)
        ]

    -- from the first on
    pub owed_all : (calls : List ProxyCall) (bytes : List ℕ) → GoodProxyCalls events calls → GrowsFrom [] calls → PutsPolls (IsPutEnd reason) 0 calls bytes
        → IsOutputUpTo events (last_polled calls) reason bytes
    owed_all calls bytes good grows puts = from_none (last_polled calls) (owed calls [] [] bytes 0 good grows ([], refl) refl puts)
      where
        from_none : (last : Option ProxyCall) → Owes reason [] bytes last → IsOutputUpTo events last reason bytes
        from_none None owes = owes
        from_none (Some call) owes = owes
