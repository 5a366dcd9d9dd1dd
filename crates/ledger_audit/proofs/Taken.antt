-- What a record that is all there does to what was read.
use Rattle.std.proofs.Common.{◌≡◌, ◌⊎◌, ℕ, ◌+◌, ◌≤◌, None, Some, Option, Err, List, [], ◌∷◌, ◌++◌, length, take, drop, arith, inl, inr, refl, ap, subst, sym, ◌∙◌, append-nil, append_assoc, length-append}
use Rattle.std.proofs.lemmas.List.{length-reverse, take-append-drop, take_at}
use Rattle.std.specs.List.{AllByRecursion}
use Rattle.history_laws.proofs.Legalities.{one_more_legal}
use Rattle.ledger_records.proofs.Growth.{hash-end, old_text-end, text-end}
use Rattle.ledger_records.specs.Growing.{hash_after}
use Rattle.ledger_records.specs.Keeping.{IsKept}
use Rattle.ledger_records.specs.WellFormed.{CanBeKept}
use Rattle.ledger_records.specs.Records.{BeginsWithNoRecord, IsRecordOf, said_body_len}
use Rattle.ledger_replay.specs.declared.replay.Replay.{Replay}
use Rattle.ledger_replay.specs.Replays.{HasCause}
use Rattle.pool_history.specs.declared.causes.Cause.{Cause}
use Rattle.pool_history.specs.declared.events.Event.{Event}
use Rattle.pool_history.specs.Ledger.{chain, ledger_text, ledger_text_1, magic_1, magic_2, record_body, record_of}
use Rattle.pool_history.specs.Legal.{cause_of}
use Rattle.pool_history.specs.Sessions.{past_of}
use Rattle.ledger_audit.specs.declared.format.Format.{Format}
use Rattle.ledger_audit.specs.declared.format.Format.TheVariants.{Plain, Chained}
use Rattle.ledger_audit.specs.declared.records.Halt.{Halt}
use Rattle.ledger_audit.specs.declared.records.Halt.TheVariants as halt
use Rattle.ledger_audit.specs.declared.records.Records.{Records}
use Rattle.ledger_audit.specs.declared.verdict.Verdict.{Verdict}
use Rattle.ledger_audit.specs.declared.verdict.Verdict.TheVariants as verdict
use Rattle.ledger_audit.specs.Auditing.{DecidesRecord, IsBehindLedger, IsBroken, IsHashIn, IsNextHash, IsReplayOf, IsToldOrCaused, magic_of, told_count}
use Rattle.ledger_audit.specs.Duty.{HasDefect}
use Rattle.ledger_audit.specs.Units.{hash_len, lacking, unit_len}
use Rattle.ledger_audit.specs.Verdicts.{BeginsLegal, BeginsRecord, HasHash, HasNoMagic, IsChained, text_in}
use Rattle.ledger_audit.specs.Lacking.{no_record-more, said-record, unit_there}

-- a magic alone
nothing_kept : IsKept []
nothing_kept = record { legal = tt; has_ledger = tt }

magic_text : (format : Format) → text_in format [] ≡ magic_of format
magic_text Plain = append-nil magic_1
magic_text Chained = append-nil magic_2

pub magic_alone : (format : Format) (magic : List ℕ) → magic ≡ magic_of format → BeginsLegal format [] magic []
magic_alone format magic is = record { kept = nothing_kept; text = is ∙ sym (magic_text format) ∙ sym (append-nil (text_in format [])) }

pub magic_place : (format : Format) → 8 ≡ length (text_in format [])
magic_place Plain = refl
magic_place Chained = refl

pub magic_hash_is : (format : Format) (hash : List ℕ) → hash ≡ hash_after [] → IsHashIn format hash []
magic_hash_is Plain hash is = tt
magic_hash_is Chained hash is = is

-- eight bytes that are neither magic
none_left : (magic one rest : List ℕ) → length magic ≡ 8 → length one ≡ 8 → magic ≡ one ++ rest → magic ≡ one
none_left magic one [] long eight is = is ∙ append-nil one
none_left magic one (b ∷ rest) long eight is = absurd (omega (arith, long, eight, ap length is, length-append one (b ∷ rest)))

pub no_magic_of : (magic : List ℕ) → length magic ≡ 8 → ((format : Format) → magic ≡ magic_of format → ⊥) → HasNoMagic magic
no_magic_of magic long none = record {
  plain = λ rest is. none Plain (none_left magic magic_1 rest long refl is);
  chained = λ rest is. none Chained (none_left magic magic_2 rest long refl is);
}

-- as many events were told as the history has
pub told_length : (replay : Option Replay) (history : List Event) → IsReplayOf replay history → told_count replay ≡ length history
told_length None history none = sym (ap length none)
told_length (Some replay) history were = were.events_are ∙ length-reverse history

all_and : (P : Event → Type 0) (a : List Event) (e : Event) → AllByRecursion P a → P e → AllByRecursion P (a ++ e ∷ [])
all_and P [] e all one = (one, tt)
all_and P (x ∷ a) e all one = (all.0, all_and P a e all.1 one)

-- just what stands behind a record of a history
IsBehindRecord : Format → List Event → List ℕ → Type 0
IsBehindRecord Plain history behind = behind ≡ []
IsBehindRecord Chained history behind = behind ≡ hash_after history

text-grows : (format : Format) (history : List Event) (e : Event) (behind : List ℕ) → IsBehindRecord format (history ++ e ∷ []) behind
    → text_in format history ++ (record_of e ++ behind) ≡ text_in format (history ++ e ∷ [])
unfolding IsBehindRecord
text-grows Plain history e behind none =
    ap (λ b. ledger_text_1 history ++ (record_of e ++ b)) none ∙ ap (λ r. ledger_text_1 history ++ r) (append-nil (record_of e)) ∙ sym (old_text-end history e)
text-grows Chained history e behind is =
    ap (λ b. ledger_text history ++ (record_of e ++ b)) is ∙ sym (append_assoc (ledger_text history) (record_of e) (hash_after (history ++ e ∷ []))) ∙ sym (text-end history e)

-- the hash behind a record is there and is its own
hash-is : (format : Format) (history : List Event) (e : Event) (before one behind hash : List ℕ) → IsHashIn format before history → one ≡ record_of e
    → IsNextHash format before one behind hash → length behind ≡ hash_len format → IsBehindRecord format (history ++ e ∷ []) behind
unfolding IsBehindRecord
hash-is Plain history e before one behind hash was same next len = none behind len where
  none : (b : List ℕ) → length b ≡ 0 → b ≡ []
  none [] l = refl
  none (x ∷ b) l = absurd (omega (arith, l))
hash-is Chained history e before one behind hash was same next len =
    next.1 ∙ next.0 ∙ ap (λ h. chain h one) was ∙ ap (chain (hash_after history)) same ∙ sym (hash-end history e)

chained_so : (format : Format) (history : List Event) (behind more : List ℕ) → IsBehindRecord format history behind → length behind ≡ hash_len format
    → IsChained format history (behind ++ more)
unfolding IsBehindRecord
chained_so Plain history behind more is len = tt
chained_so Chained history behind more is len = take_at behind more 32 len ∙ is

hash-there : (format : Format) (behind more : List ℕ) → length behind ≡ hash_len format → HasHash format (behind ++ more)
hash-there Plain behind more len = tt
hash-there Chained behind more len = omega (arith, len, length-append behind more)

next_hash_in : (format : Format) (history : List Event) (e : Event) (before one behind hash : List ℕ) → IsHashIn format before history → one ≡ record_of e
    → IsNextHash format before one behind hash → IsHashIn format hash (history ++ e ∷ [])
next_hash_in Plain history e before one behind hash was same next = tt
next_hash_in Chained history e before one behind hash was same next =
    next.0 ∙ ap (λ h. chain h one) was ∙ ap (chain (hash_after history)) same ∙ sym (hash-end history e)

module _ (old : Records) (bytes unit : List ℕ) (was : IsBehindLedger old bytes unit) (whole : lacking old.format unit ≡ 0) where
  -- there is no record
  pub form_defect : BeginsWithNoRecord unit → HasDefect bytes (verdict.NotALedger old.place)
  form_defect none = record {
    format = old.format;
    before = was.history;
    behind = unit;
    begins = was.begins;
    decided = whole;
    stops = λ more. record {
      some = omega (arith, none.four, length-append unit more);
      place_is = was.read.place_is;
      none = λ e rest one has. no_record-more unit more e rest none one;
    };
  }

  module _ (at_most : length unit ≤ unit_len old.format unit) (event : Event) (len : ℕ) (read : IsRecordOf unit len event) where
    one_record : unit ≡ record_of event ++ drop len unit
    one_record = sym (take-append-drop len unit) ∙ ap (λ r. r ++ drop len unit) read.is

    said : said_body_len unit ≡ length (record_body event)
    said = ap said_body_len one_record ∙ said-record event (drop len unit) read.can_be_kept

    behind_len : length (drop len unit) ≡ hash_len old.format
    behind_len =
        omega (
          arith,
          at_most,
          unit_there old.format unit whole (subst (λ n. n ≤ 300000) (sym said) read.can_be_kept.has_record.short),
          said,
          ap length one_record,
          length-append (record_of event) (drop len unit),
        )

    begins_record : (more : List ℕ) → BeginsRecord event (unit ++ more) (drop len unit ++ more)
    begins_record more = record {
      can_be_kept = read.can_be_kept;
      is = ap (λ u. u ++ more) one_record ∙ append_assoc (record_of event) (drop len unit) more;
    }

    -- the hash is another
    pub hash_defect : (told : Halt) → IsBroken old (take len unit) (drop len unit) told → (v : Verdict) × (told ≡ halt.Defect v) × HasDefect bytes v
    hash_defect told broken = (
      verdict.BrokenChain (told_count old.replay),
      broken.said,
      record {
        format = old.format;
        before = was.history;
        behind = unit;
        begins = was.begins;
        decided = whole;
        stops = λ more. record {
          event = event;
          rest = drop len unit ++ more;
          number_is = told_length old.replay was.history was.read.replayed;
          one = begins_record more;
          has_hash = hash-there old.format (drop len unit) more behind_len;
          broken = other_hash old.format broken.format (drop len unit) more behind_len was.read.hash_is broken.other;
        };
      },
    ) where
      other_hash : (format : Format) → format ≡ Chained → (behind more : List ℕ) → length behind ≡ hash_len format → IsHashIn format old.hash was.history
          → (behind ≡ chain old.hash (take len unit) → ⊥) → IsChained format (was.history ++ event ∷ []) (behind ++ more) → ⊥
      other_hash Plain is behind more long hash other chained = absurd cc
      other_hash Chained is behind more long hash other chained =
          other (sym (take_at behind more 32 long) ∙ chained ∙ hash-end was.history event ∙ sym (ap (λ h. chain h (record_of event)) hash) ∙ sym (ap (chain old.hash) read.is))

    module _ (hash : List ℕ) (next : IsNextHash old.format old.hash (take len unit) (drop len unit) hash) where
      behind_is : IsBehindRecord old.format (was.history ++ event ∷ []) (drop len unit)
      behind_is = hash-is old.format was.history event old.hash (take len unit) (drop len unit) hash was.read.hash_is read.is next behind_len

      -- the event has a cause
      pub cause_defect : (cause : Cause) → HasCause (past_of was.history) event cause → HasDefect bytes (verdict.Illegal (length was.history) cause)
      cause_defect cause has = record {
        format = old.format;
        before = was.history;
        behind = unit;
        begins = was.begins;
        decided = whole;
        stops = λ more. record {
          event = event;
          rest = drop len unit ++ more;
          number_is = refl;
          one = begins_record more;
          has_hash = hash-there old.format (drop len unit) more behind_len;
          is_chained = chained_so old.format (was.history ++ event ∷ []) (drop len unit) more behind_is behind_len;
          caused = has;
        };
      }

      -- it has none
      pub one_more : (new : Records) → new.format ≡ old.format → new.place ≡ old.place + length unit → new.hash ≡ hash
          → IsReplayOf new.replay (was.history ++ event ∷ []) → cause_of (past_of was.history) event ≡ None → IsBehindLedger new bytes []
      one_more new format place same replayed none =
          let text : text_in old.format was.history ++ unit ≡ text_in old.format (was.history ++ event ∷ []) =
          ap (λ u. text_in old.format was.history ++ u) one_record ∙ text-grows old.format was.history event (drop len unit) behind_is in
          let begins : BeginsLegal old.format (was.history ++ event ∷ []) bytes [] = record {
            kept = record {
              legal = (one_more_legal was.history event).1 (was.begins.kept.legal, none);
              has_ledger = all_and CanBeKept was.history event was.begins.kept.has_ledger read.can_be_kept;
            };
            text = was.begins.text ∙ text ∙ sym (append-nil (text_in old.format (was.history ++ event ∷ [])));
          } in
          let placed : new.place ≡ length (text_in old.format (was.history ++ event ∷ [])) =
          place ∙ ap (λ n. n + length unit) was.read.place_is ∙ sym (length-append (text_in old.format was.history) unit) ∙ ap length text in
          let hashed : IsHashIn old.format new.hash (was.history ++ event ∷ []) =
          subst (λ h. IsHashIn old.format h (was.history ++ event ∷ [])) (sym same)
          (next_hash_in old.format was.history event old.hash (take len unit) (drop len unit) hash was.read.hash_is read.is next) in
          record {
            history = was.history ++ event ∷ [];
            begins = subst (λ f. BeginsLegal f (was.history ++ event ∷ []) bytes []) (sym format) begins;
            read = record {
              place_is = subst (λ f. new.place ≡ length (text_in f (was.history ++ event ∷ []))) (sym format) placed;
              hash_is = subst (λ f. IsHashIn f new.hash (was.history ++ event ∷ [])) (sym format) hashed;
              replayed = replayed;
            };
          }

module _ (old : Records) (bytes unit : List ℕ) (was : IsBehindLedger old bytes unit) (whole : lacking old.format unit ≡ 0) (new : Records) where
  pub decide_form : (told : Halt) → (told ≡ halt.Memory) ⊎ ((told ≡ halt.Defect (verdict.NotALedger old.place)) × BeginsWithNoRecord unit)
      → DecidesRecord new bytes (Err told)
  decide_form told (inl is) = subst (λ h. DecidesRecord new bytes (Err h)) (sym is) tt
  decide_form told (inr bare) = subst (λ h. DecidesRecord new bytes (Err h)) (sym bare.0) (form_defect old bytes unit was whole bare.1)

  module _ (at_most : length unit ≤ unit_len old.format unit) (event : Event) (len : ℕ) (read : IsRecordOf unit len event) where
    pub decide_hash : (told : Halt) → IsBroken old (take len unit) (drop len unit) told → DecidesRecord new bytes (Err told)
    decide_hash told broken =
        let found = hash_defect old bytes unit was whole at_most event len read told broken in
        subst (λ h. DecidesRecord new bytes (Err h)) (sym found.1) found.2

    pub decide_cause : (replay : Option Replay) (hash : List ℕ) (told : Halt) → IsNextHash old.format old.hash (take len unit) (drop len unit) hash
        → IsToldOrCaused replay was.history event (Err told) → DecidesRecord new bytes (Err told)
    decide_cause replay hash (halt.Defect v) next caused =
        subst (λ w. HasDefect bytes w) (sym caused.1) (cause_defect old bytes unit was whole at_most event len read hash next caused.0 caused.2)
    decide_cause replay hash halt.Memory next caused = tt
