-- How long the bodies of records are, and which texts are UTF-8.
use Rattle.std.proofs.Common.{zero, suc, ◌≡◌, ℕ, ◌+◌, ◌-◌, ◌*◌, ◌<◌, ◌≤◌, Bool, true, false, ◌&&◌, List, [], ◌∷◌, ◌++◌, length, take, drop, flat_map, refl, sym, ap, ◌∙◌, arith, length-append, take-append-drop}
use Rattle.std.proofs.lemmas.Bool.{and_parts, leb-true}
use Rattle.std.proofs.lemmas.Str.{IsUtf8-from_ascii}
use Rattle.std.specs.Prelude.{◌==◌, not, Option, None, Some, nat_le, replicate}
use Rattle.std.specs.List.{AllByRecursion, list_all, list_any}
use Rattle.std.specs.Str.{IsAscii, IsUtf8, bytes_eq}
use Rattle.coinbase.specs.Parts.{suffix_of, whole_len}
use Rattle.sv2_types.specs.Spelling.{spelled_boolean, spelled_str255}
use Rattle.pool_history.specs.declared.events.Event.TheVariants as event
use Rattle.pool_history.specs.declared.events.Kind.{Kind}
use Rattle.pool_history.specs.declared.settings.Rules.{Rules}
use Rattle.pool_history.specs.declared.templates.CustomData.{CustomData}
use Rattle.pool_history.specs.declared.templates.TemplateData.{TemplateData}
use Rattle.pool_history.specs.declared.templates.TipData.{TipData}
use Rattle.pool_history.specs.Accounts.{is_account, is_empty, is_known, is_user, is_visible}
use Rattle.pool_history.specs.Ledger.{record_body, spelled_rule}
use Rattle.ledger_records.specs.WellFormed.{AreHashes, IsHash}

-- visible characters are ASCII
visible-ascii : (bytes : List ℕ) → list_all is_visible bytes ≡ true → IsAscii bytes
visible-ascii [] h zero = omega arith
visible-ascii [] h (suc i) = omega arith
visible-ascii (x ∷ xs) h zero = low x (and_parts (is_visible x) (list_all is_visible xs) h).0 where
  low : (x : ℕ) → is_visible x ≡ true → x < 128
  low x v = omega (arith, leb-true x 0x7e (and_parts (nat_le 0x21 x) (nat_le x 0x7e) v).1)
visible-ascii (x ∷ xs) h (suc i) = visible-ascii xs (and_parts (is_visible x) (list_all is_visible xs) h).1 i

-- an account as a record says it
pub record IsSpelled (account : List ℕ) : Type 0 where
  pub short : length account ≤ 255
  pub utf8 : IsUtf8 account

-- so an account is, and one that is known
account-spelled : (account : List ℕ) → is_account account ≡ true → IsSpelled account
account-spelled account is =
    let parts = and_parts (nat_le 1 (length account) && nat_le (length account) 255) (list_all is_visible account) is in
    record {
      short = leb-true (length account) 255 (and_parts (nat_le 1 (length account)) (nat_le (length account) 255) parts.0).1;
      utf8 = IsUtf8-from_ascii account (visible-ascii account parts.1);
    }

pub known-spelled : (rules : Rules) (account : List ℕ) → is_known rules account ≡ true → IsSpelled account
known-spelled rules account h =
    account-spelled account
    (and_parts (is_account account) (Rattle.std.specs.Prelude.◌||◌ (is_empty rules.users) (list_any (bytes_eq account) rules.users)) h).0

-- and one that may be listed
user-spelled : (account : List ℕ) → is_user account ≡ true → IsSpelled account
user-spelled account h = account-spelled account (and_parts (is_account account) (not (list_any (λ byte. byte == 46) account)) h).0

pub users-utf8 : (users : List (List ℕ)) → list_all is_user users ≡ true → AllByRecursion IsUtf8 users
users-utf8 [] h = tt
users-utf8 (user ∷ users) h =
    let parts = and_parts (is_user user) (list_all is_user users) h in ((user-spelled user parts.0).utf8, users-utf8 users parts.1)

users-length : (users : List (List ℕ)) → list_all is_user users ≡ true → length (flat_map spelled_str255 users) ≤ 256 * length users
users-length [] h = omega arith
users-length (user ∷ users) h =
    let parts = and_parts (is_user user) (list_all is_user users) h in
    one_more user (user-spelled user parts.0).short (users-length users parts.1)
  where
    one_more : (user : List ℕ) → length user ≤ 255 → length (flat_map spelled_str255 users) ≤ 256 * length users
        → length (flat_map spelled_str255 (user ∷ users)) ≤ 256 * length (user ∷ users)
    one_more user a b = omega (arith, a, b, length-append user (flat_map spelled_str255 users))

boolean-length : (b : Bool) → length (spelled_boolean b) ≡ 1
boolean-length true = refl
boolean-length false = refl

rule-length : (window : Option ℕ) → length (spelled_rule window) ≡ 9
rule-length None = omega arith
rule-length (Some window) = omega arith

pub start-short : (rules : Rules) → length rules.pool_script ≤ 100 → length rules.users ≤ 1000 → list_all is_user rules.users ≡ true
    → length (record_body (event.Start rules)) ≤ 300000
start-short rules p u h =
    simp length-append (omega (arith, p, u, users-length rules.users h, rule-length rules.window, boolean-length rules.version_rolling))

-- a path has 32 bytes for each hash
path-length : (path : List (List ℕ)) → AreHashes path → length (flat_map (λ item. item) path) ≡ 32 * length path
path-length [] h = refl
path-length (hash ∷ path) h = omega (arith, length-append hash (flat_map (λ item. item) path), h.0, path-length path h.1)

pub template-short : (session : ℕ) (t : TemplateData) → length t.coinbase_prefix ≤ 88 → length t.coinbase_tx_outputs ≤ 65535 → AreHashes t.merkle_path
    → length (record_body (event.Template session t)) ≤ 300000
template-short session t p o h =
    simp length-append (omega (arith, p, o, t.path_fits, path-length t.merkle_path h, boolean-length t.future_template))

pub tip-short : (session : ℕ) (t : TipData) → IsHash t.prev_hash → IsHash t.target → length (record_body (event.Tip session t)) ≤ 300000
tip-short session t p q = simp length-append (omega (arith, p, q))

pub open-short : (session : ℕ) (kind : Kind) (account : List ℕ) (class : ℕ) (lead : List ℕ) → length account ≤ 255 → length lead ≤ 32
    → length (record_body (event.Open session kind account class lead)) ≤ 300000
open-short session kind account class lead a l = simp length-append (omega (arith, a, l))

pub name-short : (session channel : ℕ) (account : List ℕ) → length account ≤ 255 → length (record_body (event.Name session channel account)) ≤ 300000
name-short session channel account a = omega (arith, a)

pub credit-short : (session channel job nonce ntime version : ℕ) (extranonce : List ℕ) → length extranonce ≤ 32
    → length (record_body (event.Credit session channel job nonce ntime version extranonce)) ≤ 300000
credit-short session channel job nonce ntime version extranonce e = omega (arith, e)

pub grant-short : (session : ℕ) (account : List ℕ) (fixed : Bool) (path : List (List ℕ)) → length account ≤ 255 → length path ≤ 255 → AreHashes path
    → length (record_body (event.Grant session account fixed path)) ≤ 300000
grant-short session account fixed path a p h = simp length-append (omega (arith, a, p, path-length path h, boolean-length fixed))

pub custom-short : (session : ℕ) (c : CustomData) → length c.token ≤ 8 → IsHash c.prev_hash → length c.coinbase_prefix ≤ 88 → length c.coinbase_tx_outputs ≤ 1024
    → AreHashes c.merkle_path → length (record_body (event.Custom session c)) ≤ 300000
custom-short session c t q p o h = simp length-append (omega (arith, t, q, p, o, c.path_fits, path-length c.merkle_path h))

-- a coinbase is as long as each of its parts at least
pub whole-holds : (w : Bool) (p s : List ℕ) → length s ≤ whole_len (record { prefix = p; suffix = s; witness = w })
whole-holds true p s = simp length-append (omega (arith, cut)) where
  cut : length (take (length s - 4) s) + length (drop (length s - 4) s) ≡ length s
  cut = sym (length-append (take (length s - 4) s) (drop (length s - 4) s)) ∙ ap length (take-append-drop (length s - 4) s)
whole-holds false p s = simp length-append (omega arith)

pub suffix-holds : (sequence count : ℕ) (first outputs : List ℕ) (lock_time : ℕ) → length outputs ≤ length (suffix_of sequence count (first ++ outputs) lock_time)
suffix-holds sequence count first outputs lock_time = simp length-append (omega arith)
