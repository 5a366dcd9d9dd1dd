-- From what a payload spells to what its frame leads to.
use Rattle.std.proofs.Common.{◌≡◌, ◌≢◌, ◌==◌, ◌⊎◌, ◌&&◌, ◌||◌, ◌%◌, ℕ, Bool, true, false, Option, None, Some, Result, Ok, Err, List, inl, inr, refl, sym, subst, ◌∙◌, ap}
use Rattle.std.specs.Prelude.{IfOk, IsOkAnd}
use Rattle.std.specs.declared.alloc.AllocError.{AllocError}
use Rattle.std.proofs.lemmas.Bool.{eqb-true, ne_eqb}
use Rattle.pool_history.specs.declared.events.Role.{Role}
use Rattle.pool_history.specs.declared.events.Role.TheVariants.{Miner, Feed, Solo}
use Rattle.sv2_frames.specs.Framing.{FrameValue}
use Rattle.sv2_messages.specs.declared.kinds.TheConstants as kinds
use Rattle.sv2_messages.specs.Messages.{Message, MsgOf, Row}
use Rattle.sv2_messages.specs.Tables.{mining_table, template_table, declare_table}
use Rattle.session_steps.specs.declared.meeting.Step.{Step}
use Rattle.session_steps.specs.declared.meeting.Step.TheVariants.{Ignore, Ask, Say, RefuseSetup, BadSetup, BadMessage}
use Rattle.session_steps.specs.Meeting.{AsksNext, LeadsBy, Meets, SetsUp, table_for}
use Rattle.session_steps.specs.Setups.{Setup, Accepted, Refused, Unsuited, setup_in}
use Rattle.session_steps.specs.Taken.{brings_own_jobs, is_declared_kind, is_feeds_kind, is_taken, takes_declared, takes_kind}
use Rattle.session_steps.specs.Talks.{Talk}
use Rattle.v2_sessions.specs.declared.meaning.Meaning.{Meaning}
use Rattle.v2_sessions.specs.Frames.{MeetsBy}
use Rattle.v2_sessions.specs.Meanings.{IsMeaningOf}

-- a payload that wasn't read brings no message
pub none_read : {M E : Type 0} (seen : M → Message) (table : List Row) (kind : ℕ) (payload : List ℕ) (result : Result M E) (e : E) → result ≡ Err e
    → ((m : Message) → MsgOf table kind payload m → IsOkAnd result (λ read. seen read ≡ m)) → (m : Message) → MsgOf table kind payload m → ⊥
none_read seen table kind payload result e is only m brought = rw is at (only m brought)

not_ignored : (setup : Setup) (talk next : Talk) → SetsUp setup talk Ignore next → ⊥
not_ignored (Accepted flags) talk next sets = let e = sets.0 in cc
not_ignored (Refused code flags) talk next sets = let e = sets.0 in cc
not_ignored Unsuited talk next sets = let e = sets.0 in cc

not_bad : (setup : Setup) (talk next : Talk) (kind : ℕ) → SetsUp setup talk (BadMessage kind) next → ⊥
not_bad (Accepted flags) talk next kind sets = let e = sets.0 in cc
not_bad (Refused code flags) talk next kind sets = let e = sets.0 in cc
not_bad Unsuited talk next kind sets = let e = sets.0 in cc

never_ignored : (flags : Option ℕ) (talk next : Talk) (m : Message) → LeadsBy flags talk m Ignore next → ⊥
never_ignored None talk next m leads = not_ignored (setup_in talk.role talk.rolling m) talk next leads
never_ignored (Some flags) talk next m leads = leads

never_bad : (flags : Option ℕ) (talk next : Talk) (m : Message) (kind : ℕ) → LeadsBy flags talk m (BadMessage kind) next → ⊥
never_bad None talk next m kind leads = not_bad (setup_in talk.role talk.rolling m) talk next kind leads
never_bad (Some flags) talk next m kind leads = leads

-- what a message that was read leads to
pub led_by : (table : List Row) (talk next : Talk) (kind : ℕ) (payload : List ℕ) (step : Step) (m : Message)
    → MsgOf table kind payload m → LeadsBy talk.flags talk m step next → MeetsBy table talk kind payload step next
led_by table talk next kind payload (Ask asked) m brought leads = record { message = m; brought = brought; leads = leads }
led_by table talk next kind payload (Say bytes) m brought leads = record { message = m; brought = brought; leads = leads }
led_by table talk next kind payload (RefuseSetup code flags) m brought leads = record { message = m; brought = brought; leads = leads }
led_by table talk next kind payload BadSetup m brought leads = record { message = m; brought = brought; leads = leads }
led_by table talk next kind payload Ignore m brought leads = never_ignored talk.flags talk next m leads
led_by table talk next kind payload (BadMessage told) m brought leads = absurd (never_bad talk.flags talk next m told leads)

-- a taken message leads on
pub leads_on : (table : List Row) (talk next : Talk) (kind : ℕ) (payload : List ℕ) (step : Step) (m : Message)
    → MsgOf table kind payload m → takes_kind talk.role talk.flags kind ≡ true
    → (takes_kind talk.role talk.flags m.kind ≡ true → LeadsBy talk.flags talk m step next) → MeetsBy table talk kind payload step next
leads_on table talk next kind payload step m brought taken leads =
    led_by table talk next kind payload step m brought (leads (ap (λ k. takes_kind talk.role talk.flags k) brought.same_kind ∙ taken))

-- so does one that was read, where memory doesn't run out
pub if_leads_on : (table : List Row) (talk next : Talk) (kind : ℕ) (payload : List ℕ) (result : Result Step AllocError) (meaning : Meaning) (m : Message)
    → MsgOf table kind payload m → takes_kind talk.role talk.flags kind ≡ true → IsMeaningOf m meaning
    → IfOk result (λ step. (message : Message) → IsMeaningOf message meaning → takes_kind talk.role talk.flags message.kind ≡ true → LeadsBy talk.flags talk message step next)
    → IfOk result (λ step. MeetsBy table talk kind payload step next)
if_leads_on table talk next kind payload (Ok step) meaning m brought taken means leads =
    leads_on table talk next kind payload step m brought taken (leads m means)
if_leads_on table talk next kind payload (Err error) meaning m brought taken means leads = tt

-- a frame of the protocol is met by it
pub met_by : (table : List Row) (talk next : Talk) (frame : FrameValue) (step : Step) → table_for frame.kind ≡ table → is_taken talk frame ≡ true
    → MeetsBy table talk frame.kind frame.payload step next → Meets talk frame step next
met_by table talk next frame (Ask asked) is taken meets =
    record { taken = taken; message = meets.message; brought = subst (λ t. MsgOf t frame.kind frame.payload meets.message) (sym is) meets.brought; leads = meets.leads }
met_by table talk next frame (Say bytes) is taken meets =
    record { taken = taken; message = meets.message; brought = subst (λ t. MsgOf t frame.kind frame.payload meets.message) (sym is) meets.brought; leads = meets.leads }
met_by table talk next frame (RefuseSetup code flags) is taken meets =
    record { taken = taken; message = meets.message; brought = subst (λ t. MsgOf t frame.kind frame.payload meets.message) (sym is) meets.brought; leads = meets.leads }
met_by table talk next frame BadSetup is taken meets =
    record { taken = taken; message = meets.message; brought = subst (λ t. MsgOf t frame.kind frame.payload meets.message) (sym is) meets.brought; leads = meets.leads }
met_by table talk next frame Ignore is taken meets = absurd meets
met_by table talk next frame (BadMessage told) is taken meets =
    record { taken = taken; none = λ m brought. meets.none m (subst (λ t. MsgOf t frame.kind frame.payload m) is brought); kind_told = meets.kind_told; same = meets.same }

pub if_met_by : (table : List Row) (talk next : Talk) (frame : FrameValue) (result : Result Step AllocError) → table_for frame.kind ≡ table → is_taken talk frame ≡ true
    → IfOk result (λ step. MeetsBy table talk frame.kind frame.payload step next) → IfOk result (λ step. Meets talk frame step next)
if_met_by table talk next frame (Ok step) is taken meets = met_by table talk next frame step is taken meets
if_met_by table talk next frame (Err error) is taken meets = tt

-- the protocol of a kind
pub table_of_feeds : (kind : ℕ) → is_feeds_kind kind ≡ true → table_for kind ≡ template_table
table_of_feeds kind is = rw is refl

pub table_of_tokens : (kind : ℕ) → kind ≡ kinds.ALLOCATE_MINING_JOB_TOKEN → table_for kind ≡ declare_table
table_of_tokens kind is = rw is refl

pub table_of_others : (kind : ℕ) → is_declared_kind kind ≡ false → is_feeds_kind kind ≡ false → kind ≢ kinds.ALLOCATE_MINING_JOB_TOKEN → table_for kind ≡ mining_table
table_of_others kind undeclared other not_token =
    let e : (kind == kinds.ALLOCATE_MINING_JOB_TOKEN) ≡ false = ne_eqb kind kinds.ALLOCATE_MINING_JOB_TOKEN not_token in
    rw (other, e, undeclared) refl

or_cases : (p q : Bool) → (p || q) ≡ true → (p ≡ true) ⊎ (q ≡ true)
or_cases true q is = inl refl
or_cases false q is = inr is

declared_kinds : (kind : ℕ) → is_declared_kind kind ≡ true → (kind ≡ kinds.DECLARE_MINING_JOB) ⊎ (kind ≡ kinds.PROVIDE_MISSING_TRANSACTIONS_SUCCESS)
declared_kinds kind is =
    elim (or_cases (kind == kinds.DECLARE_MINING_JOB) (kind == kinds.PROVIDE_MISSING_TRANSACTIONS_SUCCESS) is) [
      | inl one ↦ inl (eqb-true kind kinds.DECLARE_MINING_JOB one)
      | inr other ↦ inr (eqb-true kind kinds.PROVIDE_MISSING_TRANSACTIONS_SUCCESS other)
    ]

pub table_of_declared : (kind : ℕ) → is_declared_kind kind ≡ true → table_for kind ≡ declare_table
table_of_declared kind is =
    elim (declared_kinds kind is) [
      | inl one ↦ rw one refl
      | inr other ↦ rw other refl
    ]

and_true : (p q : Bool) → (p && q) ≡ true → (p ≡ true) × (q ≡ true)
and_true true q is = (refl, is)
and_true false q is = cc

-- what isn't of a declaration is taken by its kind alone
pub taken_by_kind : (talk : Talk) (frame : FrameValue) → is_declared_kind frame.kind ≡ false → is_taken talk frame ≡ true → takes_kind talk.role talk.flags frame.kind ≡ true
taken_by_kind talk frame undeclared taken =
    let both = and_true (frame.ext % 0x8000 == 0) (takes_kind talk.role talk.flags frame.kind || takes_declared talk frame.kind) taken in
    elim (or_cases (takes_kind talk.role talk.flags frame.kind) (takes_declared talk frame.kind) both.1) [
      | inl is ↦ is
      | inr declared ↦ let no : false ≡ true = sym (ap (λ b. b && (talk.declares && brings_own_jobs talk.role talk.flags)) undeclared) ∙ declared in cc
    ]

-- no declaration is taken before the setup
unset_one : (role : Role) (declares : Bool) → (takes_kind role None kinds.DECLARE_MINING_JOB || (is_declared_kind kinds.DECLARE_MINING_JOB && (declares && brings_own_jobs role None))) ≡ false
unset_one Miner true = refl
unset_one Miner false = refl
unset_one Feed true = refl
unset_one Feed false = refl
unset_one Solo true = refl
unset_one Solo false = refl

unset_other : (role : Role) (declares : Bool)
    → (takes_kind role None kinds.PROVIDE_MISSING_TRANSACTIONS_SUCCESS || (is_declared_kind kinds.PROVIDE_MISSING_TRANSACTIONS_SUCCESS && (declares && brings_own_jobs role None))) ≡ false
unset_other Miner true = refl
unset_other Miner false = refl
unset_other Feed true = refl
unset_other Feed false = refl
unset_other Solo true = refl
unset_other Solo false = refl

unset : (role : Role) (declares : Bool) (kind : ℕ) → is_declared_kind kind ≡ true
    → (takes_kind role None kind || (is_declared_kind kind && (declares && brings_own_jobs role None))) ≡ false
unset role declares kind is =
    elim (declared_kinds kind is) [
      | inl one ↦ rw one (unset_one role declares)
      | inr other ↦ rw other (unset_other role declares)
    ]

led_declared : (flags : Option ℕ) (talk next : Talk) (kind : ℕ) (step : Step) (m : Message)
    → (takes_kind talk.role flags kind || (is_declared_kind kind && (talk.declares && brings_own_jobs talk.role flags))) ≡ true
    → is_declared_kind kind ≡ true → AsksNext m talk step next → LeadsBy flags talk m step next
led_declared (Some flags) talk next kind step m taken is asks = asks
led_declared None talk next kind step m taken is asks =
    let no : true ≡ false = sym taken ∙ unset talk.role talk.declares kind is in cc

-- a taken frame of a declaration leads on
pub meets_declared : (talk next : Talk) (frame : FrameValue) (step : Step) (m : Message) → is_taken talk frame ≡ true → is_declared_kind frame.kind ≡ true
    → MsgOf declare_table frame.kind frame.payload m → AsksNext m talk step next → MeetsBy declare_table talk frame.kind frame.payload step next
meets_declared talk next frame step m taken is brought asks =
    let both = and_true (frame.ext % 0x8000 == 0) (takes_kind talk.role talk.flags frame.kind || takes_declared talk frame.kind) taken in
    led_by declare_table talk next frame.kind frame.payload step m brought (led_declared talk.flags talk next frame.kind step m both.1 is asks)

-- a message of a taken frame of a declaration is of a declaration
pub declared_message : (kind : ℕ) (payload : List ℕ) (m : Message) → MsgOf declare_table kind payload m → is_declared_kind kind ≡ true → is_declared_kind m.kind ≡ true
declared_message kind payload m brought is = ap is_declared_kind brought.same_kind ∙ is
