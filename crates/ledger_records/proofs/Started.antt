-- A history with a Start alone is legal and has a ledger.
use Rattle.std.proofs.Common.{◌≡◌, ◌≤◌, Bool, true, ◌&&◌, length, arith}
use Rattle.std.proofs.lemmas.Bool.{and_parts, leb-true}
use Rattle.std.specs.Prelude.{nat_le}
use Rattle.std.specs.List.{list_all}
use Rattle.pool_history.specs.Accounts.{are_distinct, is_user, is_window}
use Rattle.history_laws.proofs.Legalities.{start_legal}
use Rattle.ledger_records.specs.Keeping.{StartsAreKept}
use Rattle.ledger_records.proofs.Sizes.{start-short, users-utf8}

-- the second, the ninth and the tenth of eleven conditions
record HoldThree (b i j : Bool) : Type 0 where
  pub second : b ≡ true
  pub ninth : i ≡ true
  pub tenth : j ≡ true

front : (x y : Bool) → x && y ≡ true → x ≡ true
front x y h = (and_parts x y h).0

three-of : (a b c d e f g h i j k : Bool) → a && b && c && d && e && f && g && h && i && j && k ≡ true → HoldThree b i j
three-of a b c d e f g h i j k all =
    let ten : a && b && c && d && e && f && g && h && i && j ≡ true = front (a && b && c && d && e && f && g && h && i && j) k all in
    let nine : a && b && c && d && e && f && g && h && i ≡ true = front (a && b && c && d && e && f && g && h && i) j ten in
    let eight : a && b && c && d && e && f && g && h ≡ true = front (a && b && c && d && e && f && g && h) i nine in
    let two : a && b ≡ true =
    front (a && b) c (front (a && b && c) d (front (a && b && c && d) e (front (a && b && c && d && e) f
    (front (a && b && c && d && e && f) g (front (a && b && c && d && e && f && g) h eight))))) in
    record {
      second = (and_parts a b two).1;
      ninth = (and_parts (a && b && c && d && e && f && g && h) i nine).1;
      tenth = (and_parts (a && b && c && d && e && f && g && h && i) j ten).1;
    }

pub starts-kept : StartsAreKept
starts-kept rules are range =
    let three : HoldThree (nat_le (length rules.pool_script) 100) (nat_le (length rules.users) 1000) (list_all is_user rules.users) =
    three-of (nat_le 1 (length rules.pool_script)) (nat_le (length rules.pool_script) 100) (nat_le rules.least_class 60) (nat_le rules.fee 10000)
    (is_window rules.window) (nat_le rules.ntime_window 86400) (nat_le 1 rules.credit_limit) (nat_le rules.credit_limit 16777215)
    (nat_le (length rules.users) 1000) (list_all is_user rules.users) (are_distinct rules.users) range in
    let script : length rules.pool_script ≤ 100 = leb-true (length rules.pool_script) 100 three.second in
    let users : length rules.users ≤ 1000 = leb-true (length rules.users) 1000 three.ninth in
    record {
      legal = start_legal rules range;
      has_ledger = (
        record {
          well_formed = are;
          has_record = record {
            fits = record { script = omega (arith, script); users = omega (arith, users) };
            texts = users-utf8 rules.users three.tenth;
            short = start-short rules script users three.tenth;
          };
        },
        tt,
      );
    }
