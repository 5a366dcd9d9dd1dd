-- Parts are made of tasks and passes one by one, and taken apart one by one.
use Rattle.std.proofs.Common.{◌≡◌, List, [], ◌∷◌, ◌++◌, length, refl, sym, ap, ◌∙◌, append_assoc, append-nil, arith}
use Rattle.std.proofs.lemmas.List.{length-append}
use Rattle.desk.specs.Parts.{IsUnpaired, parts_of}

-- so many tasks and passes were made parts of, from the last ones on
pub record Pairing {T P : Type 0} (tasks left : List T) (passes others : List P) (parts : List (T × P)) : Type 0 where
  pub taken : List T
  pub given : List P
  pub tasks_are : tasks ≡ left ++ taken
  pub passes_are : passes ≡ others ++ given
  pub parts_are : parts ≡ parts_of taken given

module _ {T P : Type 0} where
  pub pairing_none : (tasks : List T) (passes : List P) (parts : List (T × P)) → parts ≡ [] → Pairing tasks tasks passes passes parts
  pairing_none tasks passes parts none = record {
    taken = [];
    given = [];
    tasks_are = sym (append-nil tasks);
    passes_are = sym (append-nil passes);
    parts_are = none;
  }

  pub pairing_more : {tasks left rest : List T} {passes others fewer : List P} {parts more : List (T × P)} (task : T) (pass : P)
      → Pairing tasks left passes others parts → left ≡ rest ++ task ∷ [] → others ≡ fewer ++ pass ∷ [] → more ≡ parts ++ (task, pass) ∷ []
      → Pairing tasks rest passes fewer more
  pairing_more {rest = rest} {fewer = fewer} task pass pairing left others parts = record {
    taken = task ∷ pairing.taken;
    given = pass ∷ pairing.given;
    tasks_are = pairing.tasks_are ∙ ap (λ (l : List T). l ++ pairing.taken) left ∙ append_assoc rest (task ∷ []) pairing.taken;
    passes_are = pairing.passes_are ∙ ap (λ (l : List P). l ++ pairing.given) others ∙ append_assoc fewer (pass ∷ []) pairing.given;
    parts_are = parts ∙ ap (λ (l : List (T × P)). l ++ (task, pass) ∷ []) pairing.parts_are;
  }

  -- all were
  pub pairing_all : {tasks left : List T} {passes others : List P} {parts : List (T × P)} → Pairing tasks left passes others parts → left ≡ [] → others ≡ []
      → parts ≡ parts_of tasks passes
  pairing_all {tasks = all} {passes = given} pairing left others =
      let tasks : all ≡ pairing.taken = pairing.tasks_are ∙ ap (λ (l : List T). l ++ pairing.taken) left in
      let passes : given ≡ pairing.given = pairing.passes_are ∙ ap (λ (l : List P). l ++ pairing.given) others in
      pairing.parts_are ∙ ap (λ (l : List T). parts_of l pairing.given) (sym tasks) ∙ ap (λ (l : List P). parts_of all l) (sym passes)

  -- one task more, with its pass
  pub parts_more : (tasks : List T) (passes : List P) (task : T) (pass : P) → length tasks ≡ length passes
      → parts_of (tasks ++ task ∷ []) (passes ++ pass ∷ []) ≡ (task, pass) ∷ parts_of tasks passes
  parts_more [] [] task pass even = refl
  parts_more [] (p ∷ ps) task pass even = absurd (omega (arith, even))
  parts_more (t ∷ ts) [] task pass even = absurd (omega (arith, even))
  parts_more (t ∷ ts) (p ∷ ps) task pass even = ap (λ (l : List (T × P)). l ++ (t, p) ∷ []) (parts_more ts ps task pass (omega (arith, even)))

  -- so many parts were taken apart, from the last on
  pub record Unpairing (parts left : List (T × P)) (tasks : List T) (passes : List P) : Type 0 where
    pub even : length tasks ≡ length passes
    pub parts_are : parts ≡ left ++ parts_of tasks passes

  pub unpairing_none : (parts : List (T × P)) {tasks : List T} {passes : List P} → tasks ≡ [] → passes ≡ [] → Unpairing parts parts tasks passes
  unpairing_none parts tasks passes = rw (tasks, passes) (record { even = refl; parts_are = sym (append-nil parts) })

  pub unpairing_more : {parts left fewer : List (T × P)} {tasks tasks' : List T} {passes passes' : List P} (part : T × P)
      → Unpairing parts left tasks passes → left ≡ fewer ++ part ∷ [] → tasks' ≡ tasks ++ part.0 ∷ [] → passes' ≡ passes ++ part.1 ∷ [] → Unpairing parts fewer tasks' passes'
  unpairing_more {fewer = fewer} {tasks = tasks} {passes = passes} part so_far popped tasks_are passes_are =
      rw (tasks_are, passes_are)
      (record {
        even = (let a = length-append tasks (part.0 ∷ []) in let b = length-append passes (part.1 ∷ []) in let e = so_far.even in omega (arith, a, b, e));
        parts_are = so_far.parts_are ∙ ap (λ (l : List (T × P)). l ++ parts_of tasks passes) popped ∙ append_assoc fewer (part ∷ []) (parts_of tasks passes)
            ∙ ap (λ (l : List (T × P)). fewer ++ l) (sym (parts_more tasks passes part.0 part.1 so_far.even));
      })

  pub unpairing_all : {parts left : List (T × P)} {tasks : List T} {passes : List P} → Unpairing parts left tasks passes → left ≡ [] → IsUnpaired parts tasks passes
  unpairing_all {tasks = tasks} {passes = passes} so_far none = record {
    even = so_far.even;
    parts_are = so_far.parts_are ∙ ap (λ (l : List (T × P)). l ++ parts_of tasks passes) none;
  }
