-- What was put by the polls of some calls.
use Rattle.std.proofs.Common.{◌≡◌, ◌⊎◌, ℕ, ◌+◌, Bool, true, false, Some, List, [], ◌∷◌, ◌++◌, length, refl, ap, subst, ◌∙◌, append_assoc, inl, inr}
use Rattle.std.specs.declared.alloc.AllocError.{AllocError}
use Rattle.pool_base.specs.Calls.{Faulted, Outcome, Replied}
use Rattle.pool_base.specs.Lists.{Begins}
use Rattle.session_steps.specs.declared.ends.SessionEnd.{SessionEnd}
use Rattle.proxy_rules.specs.declared.requests.ProxyReply.{ProxyReply}
use Rattle.proxy_rules.specs.declared.requests.ProxyReply.TheVariants as reply
use Rattle.proxy_rules.specs.declared.requests.ProxyRequest.{ProxyRequest}
use Rattle.proxy_rules.specs.declared.requests.ProxyRequest.TheVariants as request
use Rattle.proxy_server.specs.Calls.{Fails, ProxyCall, Replies, RepliesSo}
use Rattle.proxy_server.specs.Links.{Deed, Frames, IsPutEnd, Lacked, Leads, Lines, LinkState, Overran, Broke, Refused, Passed, Polled, Stop, StopsBy, Told, Tongue, Unpolled, Unput, Untold, bytes_at, bytes_in, calls_at, calls_in, request_for}
use Rattle.pool_promises.specs.Puts.{is_polled, is_reply_to_poll}

-- a request to join
abbrev pub is_joining : ProxyRequest → Bool
is_joining request.Join = true
is_joining _ = false

-- a call is no poll that was replied to, and doesn't ask to join
abbrev pub IsQuiet : ProxyCall → Type 0
IsQuiet call = (is_polled call ≡ false) × (is_joining call.asked ≡ false)

abbrev pub AreQuiet : List ProxyCall → Type 0
AreQuiet [] = Unit {0}
AreQuiet (call ∷ calls) = IsQuiet call × AreQuiet calls

-- from a place of the output on: a call is quiet; or it is a poll that was replied to, and what came was put; or
-- a front of it was, by a cause, and then all calls are quiet
abbrev pub PutsPolls : Type 0 → ℕ → List ProxyCall → List ℕ → Type 0
PutsPolls cut cursor [] bytes = bytes ≡ []
PutsPolls cut cursor (call ∷ calls) bytes =
    (IsQuiet call × PutsPolls cut cursor calls bytes)
    ⊎ ((news : List ℕ) × (rest : List ℕ) × RepliesSo (request.Poll cursor) (reply.Bytes news) call × (bytes ≡ news ++ rest) × PutsPolls cut (cursor + length news) calls rest)
    ⊎ ((news : List ℕ) × RepliesSo (request.Poll cursor) (reply.Bytes news) call × Begins bytes news × AreQuiet calls × cut)

-- ---- which calls are polls

pub no_poll : (asked : ProxyRequest) (answer : ProxyReply) (call : ProxyCall) → is_reply_to_poll asked (Replied answer) ≡ false → call.asked ≡ asked → call.outcome ≡ Replied answer
    → is_polled call ≡ false
no_poll asked answer call none is so =
    ap (λ (r : ProxyRequest). is_reply_to_poll r call.outcome) is ∙ ap (λ (o : Outcome ProxyReply AllocError). is_reply_to_poll asked o) so ∙ none

faulted_none : (asked : ProxyRequest) (fault : AllocError) → is_reply_to_poll asked (Faulted fault) ≡ false
faulted_none (request.Up bytes) fault = refl
faulted_none request.UpEnd fault = refl
faulted_none request.Join fault = refl
faulted_none (request.Line line) fault = refl
faulted_none request.Leave fault = refl
faulted_none (request.Poll from) fault = refl

-- what is asked, where this is no joining
asks_else : (asked : ProxyRequest) (call : ProxyCall) → is_joining asked ≡ false → call.asked ≡ asked → is_joining call.asked ≡ false
asks_else asked call none is = ap is_joining is ∙ none

pub failed_none : (asked : ProxyRequest) (call : ProxyCall) → Fails asked call → is_polled call ≡ false
failed_none asked call fails = ap (λ (o : Outcome ProxyReply AllocError). is_reply_to_poll call.asked o) fails.2 ∙ faulted_none call.asked fails.0

pub failed_quiet : (asked : ProxyRequest) (call : ProxyCall) → is_joining asked ≡ false → Fails asked call → IsQuiet call
failed_quiet asked call none fails = (failed_none asked call fails, asks_else asked call none fails.1)

item_none : (tongue : Tongue) (item : List ℕ) (answer : ProxyReply) → is_reply_to_poll (request_for tongue item) (Replied answer) ≡ false
item_none Lines item answer = refl
item_none Frames item answer = refl

item_stays : (tongue : Tongue) (item : List ℕ) → is_joining (request_for tongue item) ≡ false
item_stays Lines item = refl
item_stays Frames item = refl

pub asked_quiet : (asked : ProxyRequest) (call : ProxyCall) → ((answer : ProxyReply) → is_reply_to_poll asked (Replied answer) ≡ false) → is_joining asked ≡ false
    → Replies asked call → IsQuiet call
asked_quiet asked call none stays replies =
    (no_poll asked replies.0 call (none replies.0) replies.1.0 replies.1.1, asks_else asked call stays replies.1.0)

pub told_quiet : (tongue : Tongue) (item : List ℕ) (call : ProxyCall) → Replies (request_for tongue item) call → IsQuiet call
told_quiet tongue item call replies = asked_quiet (request_for tongue item) call (item_none tongue item) (item_stays tongue item) replies

-- ---- deeds

module _ (cut : Type 0) (tongue : Tongue) where
  pub deeds_put : (old : LinkState) (deeds : List Deed) (last : LinkState) (more : List ProxyCall) (bytes : List ℕ) → Leads tongue old deeds last
      → PutsPolls cut last.cursor more bytes → PutsPolls cut old.cursor (calls_in deeds ++ more) (bytes_in deeds ++ bytes)
  deeds_put old [] last more bytes leads puts = subst (λ (s : LinkState). PutsPolls cut s.cursor more bytes) leads puts
  deeds_put old (Told item call ∷ deeds) last more bytes leads puts =
      let middle = leads.0 in
      let is = leads.1.4 in
      inl (
        told_quiet tongue item call leads.1.3,
        subst (λ (s : LinkState). PutsPolls cut s.cursor (calls_in deeds ++ more) (bytes_in deeds ++ bytes)) is (deeds_put middle deeds last more bytes leads.2 puts),
      )
  deeds_put old (Passed item ∷ deeds) last more bytes leads puts =
      subst (λ (s : LinkState). PutsPolls cut s.cursor (calls_in deeds ++ more) (bytes_in deeds ++ bytes)) leads.1.3 (deeds_put leads.0 deeds last more bytes leads.2 puts)
  deeds_put old (Polled news call ∷ deeds) last more bytes leads puts =
      inr (inl (
        news,
        bytes_in deeds ++ bytes,
        leads.1.1,
        append_assoc news (bytes_in deeds) bytes,
        subst (λ (s : LinkState). PutsPolls cut s.cursor (calls_in deeds ++ more) (bytes_in deeds ++ bytes)) leads.1.2 (deeds_put leads.0 deeds last more bytes leads.2 puts),
      ))

-- calls behind the last poll put nothing
pub none_put : (cut : Type 0) (cursor : ℕ) (calls : List ProxyCall) → AreQuiet calls → PutsPolls cut cursor calls []
none_put cut cursor [] none = refl
none_put cut cursor (call ∷ calls) none = inl (none.0, none_put cut cursor calls none.1)

pub stop_put : (tongue : Tongue) (last : LinkState) (stop : Stop) (reason : SessionEnd) (more : List ProxyCall) → StopsBy tongue last stop reason → AreQuiet more
    → PutsPolls (IsPutEnd reason) last.cursor (calls_at (Some stop) ++ more) (bytes_at (Some stop))
stop_put tongue last Overran reason more by none = none_put _ last.cursor more none
stop_put tongue last Broke reason more by none = none_put _ last.cursor more none
stop_put tongue last Refused reason more by none = none_put _ last.cursor more none
stop_put tongue last Lacked reason more by none = none_put _ last.cursor more none
stop_put tongue last (Untold item call) reason more by none =
    inl (failed_quiet (request_for tongue item) call (item_stays tongue item) by.3, none_put _ last.cursor more none)
stop_put tongue last (Unpolled call) reason more by none =
    inl (failed_quiet (request.Poll last.cursor) call refl by.1, none_put _ last.cursor more none)
stop_put tongue last (Unput front call) reason more by none = inr (inr (by.0, by.2, by.3, none, by.4))

-- so none of the calls asks to join
abbrev pub NoneJoin : List ProxyCall → Type 0
NoneJoin [] = Unit {0}
NoneJoin (call ∷ calls) = (is_joining call.asked ≡ false) × NoneJoin calls

quiet_stay : (calls : List ProxyCall) → AreQuiet calls → NoneJoin calls
quiet_stay [] quiet = tt
quiet_stay (call ∷ calls) quiet = (quiet.0.1, quiet_stay calls quiet.1)

poll_stays : (call : ProxyCall) (from : ℕ) (answer : ProxyReply) → RepliesSo (request.Poll from) answer call → is_joining call.asked ≡ false
poll_stays call from answer so = ap is_joining so.0

pub none_join : (cut : Type 0) (cursor : ℕ) (calls : List ProxyCall) (bytes : List ℕ) → PutsPolls cut cursor calls bytes → NoneJoin calls
none_join cut cursor [] bytes puts = tt
none_join cut cursor (call ∷ calls) bytes puts = elim puts [
  | inl skips ↦ (skips.0.1, none_join cut cursor calls bytes skips.1)
  | inr (inl takes) ↦ (poll_stays call cursor (reply.Bytes takes.0) takes.2, none_join cut (cursor + length takes.0) calls takes.1 takes.4)
  | inr (inr cuts) ↦ (poll_stays call cursor (reply.Bytes cuts.0) cuts.1, quiet_stay calls cuts.3)
]
