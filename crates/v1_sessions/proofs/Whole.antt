-- What a session of lines took, heard and said, from its first step to its last.
use Rattle.std.proofs.Common.{◌≡◌, ℕ, Bool, true, false, List, [], ◌∷◌, ◌++◌, Option, Some, None, map, reverse, refl, sym, ap, ◌∙◌, append_assoc, append-nil}
use Rattle.std.specs.Prelude.{if◌then◌else◌, is_some}
use Rattle.std.proofs.lemmas.Grind.{flat_map-append}
use Rattle.std.proofs.lemmas.List.{reverse-append}
use Rattle.pool_base.specs.Calls.{Outcome, Replied, Faulted}
use Rattle.pool_io.specs.declared.sink.SinkFailed.{SinkFailed}
use Rattle.pool_io.specs.Steps.{bytes_in}
use Rattle.pool_io.proofs.Stepping.{bytes_in-append, bytes_in-map}
use Rattle.pool_history.specs.declared.refusals.BookError.{BookError}
use Rattle.pool_history.specs.declared.replies.Reply.{Reply}
use Rattle.pool_history.specs.declared.replies.Reply.TheVariants as reply
use Rattle.pool_history.specs.Calls.{PoolCall}
use Rattle.v1_lines.specs.Lines.{line_bytes}
use Rattle.session_steps.specs.States.{Put, nothing_put}
use Rattle.session_steps.specs.Steps.{bytes_of_frames}
use Rattle.session_steps.proofs.Streams.{call_unmet}
use Rattle.v1_translate.specs.Heard as v1
use Rattle.v1_translate.specs.Lines.{line_reaction}
use Rattle.v1_translate.specs.Messages.{reaction}
use Rattle.v1_translate.specs.Sessions.{said_after, state_after}
use Rattle.v1_translate.specs.State.{Saying, Terms, V1State}
use Rattle.v1_translate.specs.Saying.{line_of}
use Rattle.v1_sessions.specs.Laws.{ArePut, SaidIsPut, SessionsAreFolds, TakenIsHeard, all_heard, heard_by_call, heard_in, lines_in}
use Rattle.v1_sessions.specs.Requests.{LineRequest}
use Rattle.v1_sessions.specs.States.{LineState, after_called, after_entering, after_line, lines_after, lines_said, new_line_state, sends, unless_failed, v1_after}
use Rattle.v1_sessions.specs.Steps.{Called, CanStep, Ended, Follows, Heard, Idled, LineStep, Missed, Overran, PutsTold, Spent, Starved, Took, after_step, bytes_of, put_of, turns_of}

-- ---- the bytes

sent_if : (b : Bool) (x y : LineState) (unmet : List ℕ) → x.pool.unmet ≡ unmet → y.pool.unmet ≡ unmet → (if b then x else y).pool.unmet ≡ unmet
sent_if true x y unmet first second = first
sent_if false x y unmet first second = second

sent_unmet : (wish : Option LineRequest) (s : LineState) → (sends wish s).pool.unmet ≡ s.pool.unmet
sent_unmet None s = refl
sent_unmet (Some wish) s = sent_if (is_some s.pool.talk.flags) _ _ s.pool.unmet refl refl

unless_unmet : (fault : Option SinkFailed) (s t : LineState) → t.pool.unmet ≡ s.pool.unmet → (unless_failed fault s t).pool.unmet ≡ s.pool.unmet
unless_unmet None s t same = same
unless_unmet (Some cause) s t same = refl

line_unmet : (terms : Terms) (s : LineState) (line rest : List ℕ) (wish : Option LineRequest) (put : Put) → (after_line terms s line rest wish put).pool.unmet ≡ rest
line_unmet terms s line rest wish put = unless_unmet put.fault _ _ (sent_unmet wish _)

entering_unmet : (wish : LineRequest) (s : LineState) (front : ℕ) (outcome : Outcome Reply BookError) → (after_entering wish s front outcome).pool.unmet ≡ s.pool.unmet
entering_unmet wish s front (Faulted cause) = refl
entering_unmet wish s front (Replied (reply.PoolFull most)) = refl
entering_unmet wish s front (Replied _) = refl

called_unmet : (terms : Terms) (next : Option LineRequest) (s : LineState) (call : PoolCall) (put : Put) → (after_called terms next s call put).pool.unmet ≡ s.pool.unmet
called_unmet terms (Some wish) s call put = entering_unmet wish s call.front call.outcome
called_unmet terms None s call put = call_unmet s.pool.stage s.pool call put

taken_from : (worker : ℕ) (terms : Terms) (s t : LineState) (steps : List LineStep) → Follows worker terms s steps t
    → s.pool.unmet ++ bytes_in (turns_of steps) ≡ line_bytes (lines_in steps) ++ t.pool.unmet
taken_from worker terms s t [] follows = append-nil s.pool.unmet ∙ sym (ap (λ (u : LineState). u.pool.unmet) follows)
taken_from worker terms s t (Took bytes ∷ xs) follows =
    ap (λ b. s.pool.unmet ++ b) (bytes_in-append (map Some bytes) (turns_of xs) ∙ ap (λ b. b ++ bytes_in (turns_of xs)) (bytes_in-map bytes))
    ∙ sym (append_assoc s.pool.unmet bytes (bytes_in (turns_of xs)))
    ∙ taken_from worker terms (after_step terms s (Took bytes)) t xs follows.1
taken_from worker terms s t (Heard line rest wish put ∷ xs) follows =
    ap (λ u. u ++ bytes_in (turns_of xs)) (follows.0.whole ∙ sym (append_assoc line (10 ∷ []) rest))
    ∙ append_assoc (line ++ 10 ∷ []) rest (bytes_in (turns_of xs))
    ∙ ap (λ b. (line ++ 10 ∷ []) ++ b)
    (ap (λ u. u ++ bytes_in (turns_of xs)) (sym (line_unmet terms s line rest wish put)) ∙ taken_from worker terms (after_step terms s (Heard line rest wish put)) t xs follows.1)
    ∙ sym (append_assoc (line ++ 10 ∷ []) (line_bytes (lines_in xs)) t.pool.unmet)
taken_from worker terms s t (Called call put ∷ xs) follows =
    ap (λ u. u ++ bytes_in (turns_of xs)) (sym (called_unmet terms s.next s call put))
    ∙ taken_from worker terms (after_step terms s (Called call put)) t xs follows.1
taken_from worker terms s t (Overran ∷ xs) follows = taken_from worker terms (after_step terms s Overran) t xs follows.1
taken_from worker terms s t (Idled ∷ xs) follows = taken_from worker terms (after_step terms s Idled) t xs follows.1
taken_from worker terms s t (Ended ∷ xs) follows = taken_from worker terms (after_step terms s Ended) t xs follows.1
taken_from worker terms s t (Missed ∷ xs) follows = taken_from worker terms (after_step terms s Missed) t xs follows.1
taken_from worker terms s t (Starved ∷ xs) follows = taken_from worker terms (after_step terms s Starved) t xs follows.1
taken_from worker terms s t (Spent ∷ xs) follows = taken_from worker terms (after_step terms s Spent) t xs follows.1

pub taken_is_heard : TakenIsHeard
taken_is_heard worker terms manner steps last follows = taken_from worker terms (new_line_state manner) last steps follows

-- ---- what is known

v1_on : (terms : Terms) (v : V1State) (xs ys : List v1.Heard) → v1_after terms v (xs ++ ys) ≡ v1_after terms (v1_after terms v xs) ys
v1_on terms v [] ys = refl
v1_on terms v (x ∷ xs) ys = v1_on terms (reaction terms v x).after xs ys

sent_v1_if : (b : Bool) (x y : LineState) (v : V1State) → x.v1 ≡ v → y.v1 ≡ v → (if b then x else y).v1 ≡ v
sent_v1_if true x y v first second = first
sent_v1_if false x y v first second = second

sent_v1 : (wish : Option LineRequest) (s : LineState) → (sends wish s).v1 ≡ s.v1
sent_v1 None s = refl
sent_v1 (Some wish) s = sent_v1_if (is_some s.pool.talk.flags) _ _ s.v1 refl refl

unless_v1 : (fault : Option SinkFailed) (s t : LineState) → t.v1 ≡ s.v1 → (unless_failed fault s t).v1 ≡ s.v1
unless_v1 None s t same = same
unless_v1 (Some cause) s t same = refl

entering_v1 : (wish : LineRequest) (s : LineState) (front : ℕ) (outcome : Outcome Reply BookError) → (after_entering wish s front outcome).v1 ≡ s.v1
entering_v1 wish s front (Faulted cause) = refl
entering_v1 wish s front (Replied (reply.PoolFull most)) = refl
entering_v1 wish s front (Replied _) = refl

told_v1 : (terms : Terms) (s : LineState) (call : PoolCall) (put : Put) (outcome : Outcome Reply BookError) → call.outcome ≡ outcome
    → (after_called terms None s call put).v1 ≡ v1_after terms s.v1 (heard_by_call None s outcome)
told_v1 terms s call put (Faulted cause) is = rw is refl
told_v1 terms s call put (Replied answer) is = rw is refl

called_v1 : (terms : Terms) (next : Option LineRequest) (s : LineState) (call : PoolCall) (put : Put) → (after_called terms next s call put).v1 ≡ v1_after terms s.v1 (heard_by_call next s call.outcome)
called_v1 terms (Some wish) s call put = entering_v1 wish s call.front call.outcome
called_v1 terms None s call put = told_v1 terms s call put call.outcome refl

pub step_v1 : (terms : Terms) (s : LineState) (x : LineStep) → (after_step terms s x).v1 ≡ v1_after terms s.v1 (heard_in s x)
step_v1 terms s (Heard line rest wish put) = unless_v1 put.fault _ _ (sent_v1 wish _)
step_v1 terms s (Called call put) = called_v1 terms s.next s call put
step_v1 terms s (Took bytes) = refl
step_v1 terms s Overran = refl
step_v1 terms s Idled = refl
step_v1 terms s Ended = refl
step_v1 terms s Missed = refl
step_v1 terms s Starved = refl
step_v1 terms s Spent = refl

v1_from : (worker : ℕ) (terms : Terms) (s t : LineState) (steps : List LineStep) → Follows worker terms s steps t → t.v1 ≡ v1_after terms s.v1 (all_heard terms s steps)
v1_from worker terms s t [] follows = ap (λ (u : LineState). u.v1) follows
v1_from worker terms s t (x ∷ xs) follows =
    v1_from worker terms (after_step terms s x) t xs follows.1
    ∙ ap (λ v. v1_after terms v (all_heard terms (after_step terms s x) xs)) (step_v1 terms s x)
    ∙ sym (v1_on terms s.v1 (heard_in s x) (all_heard terms (after_step terms s x) xs))

-- the last that was heard stands first where it is looked back on
pub last_first : {B : Type 0} (x : B) (xs past : List B) → reverse xs ++ x ∷ past ≡ reverse (x ∷ xs) ++ past
last_first x xs past = sym (append_assoc (reverse xs) (x ∷ []) past) ∙ ap (λ l. l ++ past) (sym (reverse-append (x ∷ []) xs))

pub fold_is : (terms : Terms) (past hs : List v1.Heard) → v1_after terms (state_after terms past) hs ≡ state_after terms (reverse hs ++ past)
fold_is terms past [] = refl
fold_is terms past (h ∷ hs) = fold_is terms (h ∷ past) hs ∙ ap (state_after terms) (last_first h hs past)

pub sessions_are_folds : SessionsAreFolds
sessions_are_folds worker terms manner steps last follows =
    let hs = all_heard terms (new_line_state manner) steps in
    v1_from worker terms (new_line_state manner) last steps follows ∙ fold_is terms [] hs ∙ ap (state_after terms) (append-nil (reverse hs))

-- ---- what is said

abbrev says_through : Terms → V1State → List v1.Heard → List Saying
says_through terms v [] = []
says_through terms v (h ∷ hs) = (reaction terms v h).says ++ says_through terms (reaction terms v h).after hs

says_on : (terms : Terms) (v : V1State) (xs ys : List v1.Heard) → says_through terms v (xs ++ ys) ≡ says_through terms v xs ++ says_through terms (v1_after terms v xs) ys
says_on terms v [] ys = refl
says_on terms v (x ∷ xs) ys =
    ap (λ l. (reaction terms v x).says ++ l) (says_on terms (reaction terms v x).after xs ys)
    ∙ sym (append_assoc (reaction terms v x).says (says_through terms (reaction terms v x).after xs) (says_through terms (v1_after terms (reaction terms v x).after xs) ys))

said_on : (xs ys : List Saying) → lines_said (xs ++ ys) ≡ lines_said xs ++ lines_said ys
said_on xs ys = flat_map-append line_of xs ys

lines_joined : (terms : Terms) (v : V1State) (hs : List v1.Heard) → bytes_of_frames (lines_after terms v hs) ≡ lines_said (says_through terms v hs)
lines_joined terms v [] = refl
lines_joined terms v (h ∷ hs) =
    ap (λ l. lines_said (reaction terms v h).says ++ l) (lines_joined terms (reaction terms v h).after hs)
    ∙ sym (said_on (reaction terms v h).says (says_through terms (reaction terms v h).after hs))

none_bytes : (put : Put) → put ≡ nothing_put → put.bytes ≡ []
none_bytes put is = ap (λ (p : Put). p.bytes) is

told_bytes : (terms : Terms) (next : Option LineRequest) (s : LineState) (outcome : Outcome Reply BookError) (put : Put) → PutsTold terms next s outcome put → put.fault ≡ None
    → put.bytes ≡ lines_said (says_through terms s.v1 (heard_by_call next s outcome))
told_bytes terms (Some wish) s outcome put puts none = none_bytes put puts
told_bytes terms None s (Faulted cause) put puts none = none_bytes put puts
told_bytes terms None s (Replied answer) put puts none =
    let hs = heard_by_call None s (Replied answer) in
    (rw none at puts) ∙ lines_joined terms s.v1 hs

step_bytes : (worker : ℕ) (terms : Terms) (s : LineState) (x : LineStep) → CanStep worker terms s x → (put_of x).fault ≡ None
    → (put_of x).bytes ≡ lines_said (says_through terms s.v1 (heard_in s x))
step_bytes worker terms s (Heard line rest wish put) can none =
    (rw none at can.puts) ∙ ap lines_said (sym (append-nil (line_reaction terms s.v1 line).says))
step_bytes worker terms s (Called call put) can none = told_bytes terms s.next s call.outcome put can.puts none
step_bytes worker terms s (Took bytes) can none = refl
step_bytes worker terms s Overran can none = refl
step_bytes worker terms s Idled can none = refl
step_bytes worker terms s Ended can none = refl
step_bytes worker terms s Missed can none = refl
step_bytes worker terms s Starved can none = refl
step_bytes worker terms s Spent can none = refl

bytes_from : (worker : ℕ) (terms : Terms) (s t : LineState) (steps : List LineStep) → Follows worker terms s steps t → ArePut steps
    → bytes_of steps ≡ lines_said (says_through terms s.v1 (all_heard terms s steps))
bytes_from worker terms s t [] follows put = refl
bytes_from worker terms s t (x ∷ xs) follows put =
    let more = all_heard terms (after_step terms s x) xs in
    ap (λ l. l ++ bytes_of xs) (step_bytes worker terms s x follows.0 put.0)
    ∙ ap (λ l. lines_said (says_through terms s.v1 (heard_in s x)) ++ l)
    (bytes_from worker terms (after_step terms s x) t xs follows.1 put.1 ∙ ap (λ v. lines_said (says_through terms v more)) (step_v1 terms s x))
    ∙ sym (said_on (says_through terms s.v1 (heard_in s x)) (says_through terms (v1_after terms s.v1 (heard_in s x)) more))
    ∙ ap lines_said (sym (says_on terms s.v1 (heard_in s x) more))

said_is : (terms : Terms) (past hs : List v1.Heard) → said_after terms past ++ says_through terms (state_after terms past) hs ≡ said_after terms (reverse hs ++ past)
said_is terms past [] = append-nil (said_after terms past)
said_is terms past (h ∷ hs) =
    sym (append_assoc (said_after terms past) (reaction terms (state_after terms past) h).says (says_through terms (state_after terms (h ∷ past)) hs))
    ∙ said_is terms (h ∷ past) hs ∙ ap (said_after terms) (last_first h hs past)

pub said_is_put : SaidIsPut
said_is_put worker terms manner steps last follows put =
    let hs = all_heard terms (new_line_state manner) steps in
    bytes_from worker terms (new_line_state manner) last steps follows put
    ∙ ap lines_said (said_is terms [] hs ∙ ap (said_after terms) (append-nil (reverse hs)))
