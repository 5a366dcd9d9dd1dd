-- What a planned step is to a book's answer, and what its keeper is then told.
use Rattle.std.proofs.Common.{◌≡◌, ℕ, ◌+◌, ◌≤◌, None, Some, Option, List, [], ◌∷◌, ◌++◌, length, min, take, refl, ap, sym, subst, ◌∙◌, arith, append_assoc, length-append}
use Rattle.std.proofs.lemmas.List.{append-nil, append_cancel_left}
use Rattle.std.specs.Option.{option_to_list}
use Rattle.std.specs.Prelude.{IfOk, IfSome, OnErr, OnOk, Result, Ok, Err}
use Rattle.pool_history.specs.declared.asking.Request.{Request}
use Rattle.pool_history.specs.declared.events.Event.{Event}
use Rattle.pool_history.specs.declared.events.Event.TheVariants as event
use Rattle.pool_history.specs.declared.replies.Reply.{Reply}
use Rattle.pool_history.specs.Answering.{Answer, Effect, step, with_event, without_event}
use Rattle.std.specs.Int.{w32, to_le_bytes}
use Rattle.std.proofs.lemmas.List.{length-take}
use Rattle.pool_history.specs.Ledger.{HasRecord, chain, kept_records, ledger_text, magic_2, record_body, record_kind, record_of}
use Rattle.pool_history.specs.Sessions.{past_of}
use Rattle.history_laws.specs.Legality.{Starts}
use Rattle.ledger_records.specs.Growing.{PiecesGrow, LedgersGrow, hash_after}
use Rattle.ledger_records.specs.Keeping.{AnswersCanBeKept, IsKept, KeepsOn}
use Rattle.ledger_records.specs.OneLedger.{AllCanBeKept}
use Rattle.ledger_records.specs.Requests.{IsWellFormedRequest}
use Rattle.ledger_records.specs.WellFormed.{IsU32}
use Rattle.ledger_records.specs.Pieces.{piece_behind}
use Rattle.pool_io.specs.Outside.{AddsRecord}
use Rattle.event_store.specs.Kept.{KeptHistory}
use Rattle.share_ledger.specs.declared.planning.Step.{Step}
use Rattle.share_ledger.specs.declared.planning.Step.TheVariants as planned_step
use Rattle.share_ledger.specs.Planning.{IsReady, IsStep, MakesStep, past_in}
use Rattle.share_ledger.specs.Tables.{LedgerTables}
use Rattle.share_ledger.specs.Books.{IsReplied, IsUnused, KeepsInstead, KeepsLedger}

module _ (history : List Event) (worker : ℕ) (asked : Request) where
  pub answer-moved : (e : Event) (answer : Reply) → step (past_of history) worker asked ≡ with_event e answer → Answer history worker asked (e ∷ []) answer
  answer-moved e answer h =
      record {
        events_are = sym (ap (λ (s : Effect). option_to_list s.event) h);
        reply_is = sym (ap (λ (s : Effect). s.reply) h);
      }

  pub answer-still : (answer : Reply) → step (past_of history) worker asked ≡ without_event answer → Answer history worker asked [] answer
  answer-still answer h =
      record {
        events_are = sym (ap (λ (s : Effect). option_to_list s.event) h);
        reply_is = sym (ap (λ (s : Effect). s.reply) h);
      }

  pub keeps-on : AnswersCanBeKept → IsKept history → IsU32 worker → IsWellFormedRequest asked → (e : Event) (answer : Reply)
      → step (past_of history) worker asked ≡ with_event e answer → KeepsOn history (e ∷ [])
  keeps-on law kept fits well e answer h = law history worker asked (e ∷ []) answer kept fits well (answer-moved e answer h)

  pub replied-moved : (new : List Event) (e : Event) (answer : Reply) → step (past_of history) worker asked ≡ with_event e answer
      → new ≡ history ++ e ∷ [] → IsReplied history new worker asked answer
  replied-moved new e answer h grows = (e ∷ [], grows, answer-moved e answer h)

  pub replied-still : (new : List Event) (answer : Reply) → step (past_of history) worker asked ≡ without_event answer
      → new ≡ history → IsReplied history new worker asked answer
  replied-still new answer h same = ([], same ∙ sym (append-nil history), answer-still answer h)

-- a ledger with one event more has the event's piece behind the others
pub piece-more : PiecesGrow → LedgersGrow → (old : List Event) (e : Event) → Starts old
    → kept_records (old ++ e ∷ []) ≡ kept_records old ++ piece_behind (hash_after old) e ∷ []
piece-more pieces ledgers old e s =
    subst (λ (l : List Event). kept_records (l ++ e ∷ []) ≡ kept_records l ++ piece_behind (hash_after l) e ∷ []) (sym s.first)
    ((pieces (event.Start s.rules) s.more e).goes_on
    ∙ ap (λ (hash : List ℕ). kept_records (event.Start s.rules ∷ s.more) ++ (record_of e ++ hash) ∷ [])
    (ledgers (event.Start s.rules ∷ s.more) e).hash)

-- a keeper that has the ledger, and is told nothing where nothing was added, has it still
pub keeps-still : (before after : Option (List (List ℕ))) (old new : List Event) → KeepsLedger before old → new ≡ old → after ≡ before
    → KeepsInstead before after new
keeps-still None after old new keeps same still = still
keeps-still (Some records) after old new keeps same still = still ∙ ap Some (keeps ∙ ap kept_records (sym same))

-- told the piece of the event that was added, it has the ledger with that event
pub keeps-one : (before after : Option (List (List ℕ))) (hash : List ℕ) (old new : List Event) (e : Event) → KeepsLedger before old
    → hash ≡ hash_after old → new ≡ old ++ e ∷ [] → kept_records (old ++ e ∷ []) ≡ kept_records old ++ piece_behind (hash_after old) e ∷ []
    → AddsRecord before after (piece_behind hash e) → KeepsInstead before after new
keeps-one None after hash old new e keeps hashed grows more adds = adds
keeps-one (Some records) after hash old new e keeps hashed grows more adds =
    adds ∙ ap (λ (l : List (List ℕ)). Some (l ++ piece_behind hash e ∷ [])) keeps
    ∙ ap (λ (h : List ℕ). Some (kept_records old ++ piece_behind h e ∷ [])) hashed ∙ ap Some (sym more) ∙ ap (λ (l : List Event). Some (kept_records l)) (sym grows)

-- it is told the event's piece where the event was committed, and nothing where it wasn't
pub keeps-as : {A E : Type 0} (result : Result A E) (before after : Option (List (List ℕ))) (hash : List ℕ) (old new : LedgerTables) (e : Event)
    → KeepsLedger before old.history.events → hash ≡ hash_after old.history.events
    → kept_records (old.history.events ++ e ∷ []) ≡ kept_records old.history.events ++ piece_behind (hash_after old.history.events) e ∷ []
    → OnOk result (new.history.events ≡ old.history.events ++ e ∷ [])
    → OnOk result (AddsRecord before after (piece_behind hash e)) → OnErr result (new ≡ old) → OnErr result (after ≡ before)
    → KeepsInstead before after new.history.events
keeps-as (Ok a) before after hash old new e keeps hashed more grows adds same still =
    keeps-one before after hash old.history.events new.history.events e keeps hashed grows more adds
keeps-as (Err error) before after hash old new e keeps hashed more grows adds same still =
    keeps-still before after old.history.events new.history.events keeps (ap (λ (t : LedgerTables). t.history.events) same) still

-- what it has instead is the ledger
pub keeps-instead : (before after : Option (List (List ℕ))) (history : List Event) → KeepsInstead before after history → KeepsLedger after history
keeps-instead None after history is = subst (λ (o : Option (List (List ℕ))). KeepsLedger o history) (sym is) tt
keeps-instead (Some records) after history is = subst (λ (o : Option (List (List ℕ))). KeepsLedger o history) (sym is) refl

-- how long a piece is
pub piece-length : (hash : List ℕ) (e : Event) (next : List ℕ) → next ≡ chain hash (record_of e) → length next ≡ 32 → length (record_body e) ≤ 300000
    → length (piece_behind hash e) ≤ 300036
piece-length hash e next is long short =
    let body : List ℕ = record_body e in
    let head : List ℕ = take 3 (to_le_bytes w32 (length body)) in
    let three : length head ≡ min 3 (length (to_le_bytes w32 (length body))) = length-take 3 (to_le_bytes w32 (length body)) in
    let said : length (head ++ body) ≡ length head + length body = length-append head body in
    let whole : length (record_of e ++ chain hash (record_of e)) ≡ length (record_of e) + length (chain hash (record_of e)) =
    length-append (record_of e) (chain hash (record_of e)) in
    let kind : length (record_of e) ≡ 1 + length (head ++ body) = length-append (record_kind e ∷ []) (head ++ body) in
    let tail : length (chain hash (record_of e)) ≡ 32 = ap length (sym is) ∙ long in
    omega (arith, three, said, whole, kind, tail, short)

-- the first event of a book has a record, and is kept with the magic as one piece
pub first-record : (events : List Event) (e : Event) → events ≡ e ∷ [] → IsKept events → HasRecord e
first-record events e is kept = (subst (λ (l : List Event). AllCanBeKept l) is kept.has_ledger).0.has_record

pub keeps-first : (before after : Option (List (List ℕ))) (e : Event) (events : List Event) → events ≡ e ∷ [] → IsUnused before
    → AddsRecord before after (ledger_text (e ∷ [])) → KeepsInstead before after events
keeps-first None after e events is unused adds = adds
keeps-first (Some records) after e events is unused adds =
    adds ∙ ap (λ (l : List (List ℕ)). Some (l ++ ledger_text (e ∷ []) ∷ [])) unused
    ∙ ap (λ (piece : List ℕ). Some (piece ∷ [])) (append-nil _) ∙ ap (λ (l : List Event). Some (kept_records l)) (sym is)

-- a planned step, by the history before room was made
pub prepared_step : {E : Type 0} (old mid new : LedgerTables) (worker : ℕ) (asked : Request) (made : Result Step E)
    → mid.history.events ≡ old.history.events → IfOk made (IsStep new (step (past_in mid) worker asked))
    → IfOk made (IsStep new (step (past_in old) worker asked))
prepared_step old mid new worker asked made same h =
    subst (λ (l : List Event). IfOk made (IsStep new (step (past_of l) worker asked))) same h

pub prepared_ready : {E : Type 0} (old mid new : LedgerTables) (worker : ℕ) (asked : Request) (made : Result Step E)
    → AnswersCanBeKept → IsKept old.history.events → IsU32 worker → IsWellFormedRequest asked → mid.history.events ≡ old.history.events
    → 1 ≤ mid.history.room → new.history ≡ mid.history → IfOk made (IsStep new (step (past_in mid) worker asked)) → IfOk made (IsReady new)
prepared_ready old mid new worker asked (Err e) law kept fits well same room stays h = tt
prepared_ready old mid new worker asked (Ok (planned_step.Answer answer)) law kept fits well same room stays h = tt
prepared_ready old mid new worker asked (Ok (planned_step.Move planned)) law kept fits well same room stays h = (
  record {
    room = subst (λ (k : KeptHistory). 1 ≤ k.room) (sym stays) room;
    keeps = subst (λ (k : KeptHistory). KeepsOn k.events (planned.event ∷ [])) (sym stays)
        (keeps-on mid.history.events worker asked law (subst IsKept (sym same) kept) fits well planned.event planned.reply h.0);
  },
  h.1,
)

-- a step that was made is the answer to its request
pub acted : {E F : Type 0} (history old new : List Event) (tables : LedgerTables) (worker : ℕ) (asked : Request) (made : Result Step E)
    (result : Result Reply F) → old ≡ history → IfOk made (IsStep tables (step (past_of history) worker asked))
    → IfOk result (MakesStep made old new) → IfOk result (IsReplied history new worker asked)
acted history old new tables worker asked made (Err e) same h did = tt
acted history old new tables worker asked (Err e) (Ok answer) same h did = absurd did
acted history old new tables worker asked (Ok (planned_step.Answer said)) (Ok answer) same h did =
    subst (λ (r : Reply). IsReplied history new worker asked r) (sym did.0)
    (replied-still history worker asked new said h (did.1 ∙ append-nil old ∙ same))
acted history old new tables worker asked (Ok (planned_step.Move planned)) (Ok answer) same h did =
    subst (λ (r : Reply). IsReplied history new worker asked r) (sym did.0)
    (replied-moved history worker asked new planned.event planned.reply h.0
    (did.1 ∙ ap (λ (l : List Event). l ++ planned.event ∷ []) same))
