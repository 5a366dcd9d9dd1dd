-- How the logic stores what a session knows: a code of each type, by which proofs tell its values
-- apart.
use Rattle.std.specs.Prelude.{◌≡◌, ℕ, ◌==◌, Bool, false, cond, pos, ℤ, Option, List, [], refl}
use Rattle.std.specs.Float.{Float, nan}
use Rattle.std.specs.Coded.{Coded, code_by, coded×, coded_list, coded_option, coded_bool, coded_ℕ, coded_ℤ}
use base.Stored.{Gv, gnil, gnum, gcons, coded_float}
use mathlib.Core.Path.{ap, sym, subst}
use Rattle.serde_json.specs.Data.{Num, unsigned, negative, float, Data, null, boolean, number, string, array, object, Items, no_items, item, Members, no_members, member}
use Rattle.v1_translate.specs.Heard.{ToldJob}
use Rattle.v1_translate.specs.State.{HeldJobs, Naming, Tip, V1State, Waiting}

-- ---- values of JSON, as trees

-- which leaf it is, and its truth value, its number or its text
abbrev Leaf : Type 0
Leaf = ℕ × (Bool × (ℕ × (ℤ × (Float × List ℕ))))

abbrev leaf_code : Coded Leaf
leaf_code =
    coded× coded_ℕ (coded× coded_bool (coded× coded_ℕ (coded× coded_ℤ
    (coded× coded_float (coded_list coded_ℕ)))))

pub data Tree : Type 0 where
  leaf : Leaf → Tree
  branch : Tree → Tree → Tree

abbrev bare : ℕ → Tree
bare which = leaf (which, (false, (0, (pos 0, (nan, [])))))

abbrev text : ℕ → List ℕ → Tree
text which bytes = leaf (which, (false, (0, (pos 0, (nan, bytes)))))

abbrev num_tree : Num → Tree
num_tree (unsigned n) = leaf (2, (false, (n, (pos 0, (nan, [])))))
num_tree (negative z) = leaf (3, (false, (0, (z, (nan, [])))))
num_tree (float x) = leaf (4, (false, (0, (pos 0, (x, [])))))

abbrev mutual
  data_tree : Data → Tree
  data_tree null = bare 0
  data_tree (boolean b) = leaf (1, (b, (0, (pos 0, (nan, [])))))
  data_tree (number n) = num_tree n
  data_tree (string bytes) = text 5 bytes
  data_tree (array items) = branch (bare 0) (items_tree items)
  data_tree (object members) = branch (bare 1) (members_tree members)

  items_tree : Items → Tree
  items_tree no_items = bare 0
  items_tree (item value items) = branch (data_tree value) (items_tree items)

  members_tree : Members → Tree
  members_tree no_members = bare 0
  members_tree (member key value members) =
      branch (text 0 key) (branch (data_tree value) (members_tree members))

abbrev leaf_data : Leaf → Data
leaf_data l =
    cond (l.0 == 0) null (cond (l.0 == 1) (boolean l.1.0) (cond (l.0 == 2) (number (unsigned l.1.1.0))
    (cond (l.0 == 3) (number (negative l.1.1.1.0)) (cond (l.0 == 4) (number (float l.1.1.1.1.0))
    (string l.1.1.1.1.1)))))

abbrev which_of : Tree → ℕ
which_of (leaf l) = l.0
which_of (branch first rest) = 0

abbrev text_of : Tree → List ℕ
text_of (leaf l) = l.1.1.1.1.1
text_of (branch first rest) = []

abbrev mutual
  tree_data : Tree → Data
  tree_data (leaf l) = leaf_data l
  tree_data (branch first rest) =
      cond (which_of first == 0) (array (tree_items rest)) (object (tree_members rest))

  tree_items : Tree → Items
  tree_items (leaf l) = no_items
  tree_items (branch first rest) = item (tree_data first) (tree_items rest)

  tree_members : Tree → Members
  tree_members (leaf l) = no_members
  tree_members (branch key rest) = tree_member (text_of key) rest

  tree_member : List ℕ → Tree → Members
  tree_member key (leaf l) = no_members
  tree_member key (branch value rest) = member key (tree_data value) (tree_members rest)

mutual
  pub tree_data-data_tree : (d : Data) → tree_data (data_tree d) ≡ d
  tree_data-data_tree null = refl
  tree_data-data_tree (boolean b) = refl
  tree_data-data_tree (number (unsigned n)) = refl
  tree_data-data_tree (number (negative z)) = refl
  tree_data-data_tree (number (float x)) = refl
  tree_data-data_tree (string bytes) = refl
  tree_data-data_tree (array items) = ap array (tree_items-items_tree items)
  tree_data-data_tree (object members) = ap object (tree_members-members_tree members)

  pub tree_items-items_tree : (items : Items) → tree_items (items_tree items) ≡ items
  tree_items-items_tree no_items = refl
  tree_items-items_tree (item value items) =
      λ i. item (tree_data-data_tree value i) (tree_items-items_tree items i)

  pub tree_members-members_tree : (members : Members) → tree_members (members_tree members) ≡ members
  tree_members-members_tree no_members = refl
  tree_members-members_tree (member key value members) =
      λ i. member key (tree_data-data_tree value i) (tree_members-members_tree members i)

-- ---- trees, as the logic has them

abbrev tree_shape : Tree → Gv
tree_shape (leaf l) = gcons gnil (leaf_code.code l)
tree_shape (branch first rest) =
    gcons (gcons gnil gnil) (gcons (tree_shape first) (tree_shape rest))

abbrev left : Gv → Gv
left gnil = gnil
left (gnum n) = gnil
left (gcons a b) = a

abbrev right : Gv → Gv
right gnil = gnil
right (gnum n) = gnil
right (gcons a b) = b

abbrev IsNil : Gv → Type 0
IsNil gnil = Unit {0}
IsNil (gnum n) = ⊥
IsNil (gcons a b) = ⊥

pub tree_shape_inj : (x y : Tree) → tree_shape x ≡ tree_shape y → x ≡ y
tree_shape_inj (leaf l) (leaf m) same = ap leaf (leaf_code.inj l m (ap right same))
tree_shape_inj (branch a b) (branch c d) same =
    λ i. branch (tree_shape_inj a c (ap (λ g. left (right g)) same) i)
    (tree_shape_inj b d (ap (λ g. right (right g)) same) i)
tree_shape_inj (leaf l) (branch c d) same = absurd (subst (λ g. IsNil (left g)) same tt)
tree_shape_inj (branch a b) (leaf m) same = absurd (subst (λ g. IsNil (left g)) (sym same) tt)

abbrev tree_code : Coded Tree
tree_code = record { code = tree_shape; inj = tree_shape_inj }

abbrev pub data_code : Coded Data
data_code = code_by Tree tree_code data_tree tree_data tree_data-data_tree

-- ---- what a session knows

abbrev texts_code : Coded (List (List ℕ))
texts_code = coded_list (coded_list coded_ℕ)

abbrev job_code : Coded ToldJob
job_code =
    code_by (ℕ × (ℕ × (List (List ℕ) × (List ℕ × List ℕ))))
    (coded× coded_ℕ (coded× coded_ℕ (coded× texts_code (coded× (coded_list coded_ℕ) (coded_list coded_ℕ)))))
    (λ j. (j.number, (j.version, (j.path, (j.prefix, j.suffix)))))
    (λ p. record { number = p.0; version = p.1.0; path = p.1.1.0; prefix = p.1.1.1.0; suffix = p.1.1.1.1 })
    (λ _. refl)

abbrev tip_code : Coded Tip
tip_code =
    code_by (List ℕ × ℕ) (coded× (coded_list coded_ℕ) coded_ℕ)
    (λ t. (t.prev_hash, t.nbits)) (λ p. record { prev_hash = p.0; nbits = p.1 }) (λ _. refl)

abbrev jobs_code : Coded HeldJobs
jobs_code =
    code_by (List ToldJob × (List ToldJob × Option Tip))
    (coded× (coded_list job_code) (coded× (coded_list job_code) (coded_option tip_code)))
    (λ j. (j.future, (j.live, j.tip)))
    (λ p. record { future = p.0; live = p.1.0; tip = p.1.1 })
    (λ _. refl)

abbrev pub waiting_code : Coded Waiting
waiting_code =
    code_by (ℕ × Data) (coded× coded_ℕ data_code)
    (λ w. (w.number, w.id)) (λ p. record { number = p.0; id = p.1 }) (λ _. refl)

abbrev pub naming_code : Coded Naming
naming_code =
    code_by (Data × List ℕ) (coded× data_code (coded_list coded_ℕ))
    (λ n. (n.id, n.account)) (λ p. record { id = p.0; account = p.1 }) (λ _. refl)

abbrev Named : Type 0
Named = Option Naming × Option (List ℕ)

abbrev named_code : Coded Named
named_code = coded× (coded_option naming_code) (coded_option (coded_list coded_ℕ))

abbrev Sent : Type 0
Sent = ℕ × (List Waiting × HeldJobs)

abbrev sent_code : Coded Sent
sent_code = coded× coded_ℕ (coded× (coded_list waiting_code) jobs_code)

abbrev pub state_code : Coded V1State
state_code =
    code_by (ℕ × (Option Data × (Option ℕ × (Named × Sent))))
    (coded× coded_ℕ (coded× (coded_option data_code) (coded× (coded_option coded_ℕ) (coded× named_code sent_code))))
    (λ s. (s.mask, (s.subscriber, (s.channel, ((s.naming, s.account), (s.sequence, (s.waiting, s.jobs)))))))
    (λ p. record {
      mask = p.0;
      subscriber = p.1.0;
      channel = p.1.1.0;
      naming = p.1.1.1.0.0;
      account = p.1.1.1.0.1;
      sequence = p.1.1.1.1.0;
      waiting = p.1.1.1.1.1.0;
      jobs = p.1.1.1.1.1.1;
    })
    (λ _. refl)
