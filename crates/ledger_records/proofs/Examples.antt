-- What the laws aren't: statements that an example refutes. And that events can be kept at all.
use Rattle.std.proofs.Common.{zero, suc, ◌≡◌, ℕ, ◌<◌, ◌≤◌, ◌^◌, false, List, [], ◌∷◌, ◌++◌, refl, sym, ◌∙◌, arith, lit≤, lit<}
use Rattle.std.specs.Prelude.{replicate}
use Rattle.std.specs.Str.{IsAscii, chars, is_utf8}
use Rattle.std.proofs.lemmas.Bool.{false≢true}
use Rattle.std.proofs.lemmas.Str.{IsUtf8-from_ascii, is_utf8-from_IsUtf8}
use Rattle.coinbase.specs.Compact.{compact}
use Rattle.coinbase.specs.Outputs.{outputs_within}
use Rattle.pool_history.specs.declared.events.Event.{Event}
use Rattle.pool_history.specs.declared.events.Event.TheVariants as event
use Rattle.pool_history.specs.declared.events.Kind.TheVariants as kind
use Rattle.pool_history.specs.declared.events.Role.TheVariants as role
use Rattle.pool_history.specs.Ledger.{HasRecord, record_body, record_of}
use Rattle.pool_history.specs.Legal.{Legal}
use Rattle.pool_history.specs.Spaces.{first_free}
use Rattle.pool_history.proofs.Given.{comes, enters, opens, session, start, tips}
use Rattle.ledger_records.specs.Keeping.{IsKept}
use Rattle.ledger_records.specs.OneLedger.{AllCanBeKept}
use Rattle.ledger_records.specs.WellFormed.{CanBeKept}

-- a session that begins and a channel that gets a class
abbrev pub begins : Event
begins = event.Enter 0 role.Miner 0

abbrev pub sets : Event
sets = event.Class 0 0 0

begins_is_kept : CanBeKept begins
begins_is_kept = record {
  well_formed = record { worker_fits = omega arith; flags_fit = omega arith };
  has_record = record { fits = tt; texts = tt; short = omega arith };
}

sets_is_kept : CanBeKept sets
sets_is_kept = record {
  well_formed = record { session_fits = omega arith; channel_fits = omega arith; class_fits = omega arith };
  has_record = record { fits = tt; texts = tt; short = omega arith };
}

two_events : begins ≡ sets → ⊥
two_events e = cc

-- without its kind a record is of two events
pub same_body : record_body begins ≡ record_body sets
same_body = refl

abbrev pub BodiesAreOfOneEvent : Type 0
BodiesAreOfOneEvent = (one other : Event) → CanBeKept one → CanBeKept other → record_body one ≡ record_body other → one ≡ other

pub not_by_bodies : BodiesAreOfOneEvent → ⊥
not_by_bodies law = two_events (law begins sets begins_is_kept sets_is_kept same_body)

-- of numbers that don't fit their type a record says only the low bytes
abbrev pub AnyRecordIsOfOneEvent : Type 0
AnyRecordIsOfOneEvent = (one other : Event) → HasRecord one → HasRecord other → record_of one ≡ record_of other → one ≡ other

abbrev pub number_of : Event → ℕ
number_of (event.Leave session) = session
number_of one = 0

pub not_by_any_numbers : AnyRecordIsOfOneEvent → ⊥
not_by_any_numbers law =
    differ (law (event.Leave 0) (event.Leave (2 ^ 32)) (record { fits = tt; texts = tt; short = omega arith }) (record { fits = tt; texts = tt; short = omega arith }) refl)
  where
    differ : event.Leave 0 ≡ event.Leave (2 ^ 32) → ⊥
    differ e = apart 0 (2 ^ 32) (omega arith) (Rattle.std.proofs.Common.ap number_of e)
      where
        apart : (m n : ℕ) → m < n → m ≡ n → ⊥
        apart m n less same = omega (arith, less, same)

-- an Open whose account is the byte ff has no record: that byte stands in no UTF-8 text
abbrev pub opens_with_ff : Event
opens_with_ff = event.Open 0 kind.Standard (0xff ∷ []) 0 []

ff_is_no_text : is_utf8 (0xff ∷ []) ≡ false
unfolding chars is_utf8
ff_is_no_text = refl

pub ff_has_no_record : HasRecord opens_with_ff → ⊥
ff_has_no_record recorded = false≢true (sym ff_is_no_text ∙ is_utf8-from_IsUtf8 (0xff ∷ []) recorded.texts)

-- the account of the worked session is a text
a_is_ascii : IsAscii (0x61 ∷ [])
a_is_ascii zero = omega arith
a_is_ascii (suc i) = omega arith

-- each event of the worked session can be kept
pub session_is_kept : AllCanBeKept session
session_is_kept = (
  record {
    well_formed = record { least_class = omega arith; fee = omega arith; window = tt; ntime_window = omega arith; credit_limit = omega arith; users = tt };
    has_record = record { fits = record { script = omega arith; users = omega arith }; texts = tt; short = omega arith };
  },
  (
    record { well_formed = record { worker_fits = omega arith; flags_fit = omega arith }; has_record = record { fits = tt; texts = tt; short = omega arith } },
    (
      record { well_formed = record { session_fits = omega arith; account_fits = omega arith; class_fits = omega arith }; has_record = record { fits = omega arith; texts = IsUtf8-from_ascii (0x61 ∷ []) a_is_ascii; short = omega arith } },
      (
        record {
          well_formed = record {
            session_fits = omega arith;
            template_fits = record {
              template_id = omega arith;
              version = omega arith;
              coinbase_tx_version = omega arith;
              coinbase_tx_input_sequence = omega arith;
              coinbase_tx_value_remaining = omega arith;
              coinbase_tx_outputs_count = omega arith;
              coinbase_tx_locktime = omega arith;
              merkle_path = tt;
            };
          };
          has_record = record { texts = tt; fits = record { prefix = omega arith; outputs = omega arith; path = omega arith }; short = omega arith };
        },
        (
          record {
            well_formed = record {
              session_fits = omega arith;
              tip_fits = record { template_id = omega arith; prev_hash = refl; header_timestamp = omega arith; nbits = omega arith; target = refl };
            };
            has_record = record { fits = tt; texts = tt; short = omega arith };
          },
          (
            record {
              well_formed = record {
                session_fits = omega arith;
                channel_fits = omega arith;
                job_fits = omega arith;
                nonce_fits = omega arith;
                ntime_fits = omega arith;
                version_fits = omega arith;
              };
              has_record = record { fits = omega arith; texts = tt; short = omega arith };
            },
            (record { well_formed = omega arith; has_record = record { fits = tt; texts = tt; short = omega arith } }, tt),
          ),
        ),
      ),
    ),
  ),
)

-- a history may be legal and have no ledger: a Grant for any path that says one is legal, and has no record
abbrev pub says_a_path : Event
says_a_path = event.Grant 0 (0x61 ∷ []) false (replicate 32 0 ∷ [])

abbrev pub granted : List Event
granted = start ∷ event.Enter 0 role.Miner 2 ∷ says_a_path ∷ []

pub granted_is_legal : Legal granted
granted_is_legal = (((tt, refl), refl), refl)

pub granted_has_no_ledger : AllCanBeKept granted → ⊥
granted_has_no_ledger kept = differ (kept.1.1.0.has_record.fits.none refl)
  where
    differ : ◌≡◌ {A = List (List ℕ)} (replicate 32 0 ∷ []) [] → ⊥
    differ e = cc

-- and one is legal and has a ledger: the worked session up to its tip
abbrev pub tipped_session : List Event
tipped_session = start ∷ enters ∷ opens ∷ comes ∷ tips ∷ []

pub tipped_session_is_kept : IsKept tipped_session
unfolding first_free outputs_within compact
tipped_session_is_kept = record {
  legal = (((((tt, refl), refl), refl), refl), refl);
  has_ledger = (session_is_kept.0, (session_is_kept.1.0, (session_is_kept.1.1.0, (session_is_kept.1.1.1.0, (session_is_kept.1.1.1.1.0, tt)))));
}
