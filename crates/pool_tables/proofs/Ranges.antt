-- What rules in their ranges say of windows, limits and fees.
use Rattle.std.proofs.Common.{◌≡◌, ◌≤◌, ℕ, Bool, true, ◌&&◌, length}
use Rattle.std.proofs.lemmas.Bool.{and_parts, leb-true}
use Rattle.std.specs.List.{list_all}
use Rattle.std.specs.Prelude.{nat_le}
use Rattle.pool_history.specs.declared.settings.Rules.{Rules}
use Rattle.pool_history.specs.Accounts.{are_distinct, are_in_range, is_user, is_window}

fifth-and-eighth : (a b c d e f g h i j k : Bool) → a && b && c && d && e && f && g && h && i && j && k ≡ true → (e ≡ true) × (h ≡ true)
fifth-and-eighth a b c d e f g h i j k all =
    let p : (a && b && c && d && e && f && g && h && i && j ≡ true) × (k ≡ true) = and_parts (a && b && c && d && e && f && g && h && i && j) k all in
    let q : (a && b && c && d && e && f && g && h && i ≡ true) × (j ≡ true) = and_parts (a && b && c && d && e && f && g && h && i) j p.0 in
    let r : (a && b && c && d && e && f && g && h ≡ true) × (i ≡ true) = and_parts (a && b && c && d && e && f && g && h) i q.0 in
    let s : (a && b && c && d && e && f && g ≡ true) × (h ≡ true) = and_parts (a && b && c && d && e && f && g) h r.0 in
    let t : (a && b && c && d && e && f ≡ true) × (g ≡ true) = and_parts (a && b && c && d && e && f) g s.0 in
    let u : (a && b && c && d && e ≡ true) × (f ≡ true) = and_parts (a && b && c && d && e) f t.0 in
    let v : (a && b && c && d ≡ true) × (e ≡ true) = and_parts (a && b && c && d) e u.0 in
    (v.1, s.1)

pub window_and_limit : (rules : Rules) → are_in_range rules ≡ true → (is_window rules.window ≡ true) × (rules.credit_limit ≤ 16777215)
window_and_limit rules is =
    let parts : (is_window rules.window ≡ true) × (nat_le rules.credit_limit 16777215 ≡ true) =
    fifth-and-eighth (nat_le 1 (length rules.pool_script)) (nat_le (length rules.pool_script) 100) (nat_le rules.least_class 60) (nat_le rules.fee 10000)
    (is_window rules.window) (nat_le rules.ntime_window 86400) (nat_le 1 rules.credit_limit) (nat_le rules.credit_limit 16777215)
    (nat_le (length rules.users) 1000) (list_all is_user rules.users) (are_distinct rules.users) is in
    (parts.0, leb-true rules.credit_limit 16777215 parts.1)
