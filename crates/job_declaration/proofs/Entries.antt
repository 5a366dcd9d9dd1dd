-- A list that is filled entry by entry.
use Rattle.std.proofs.Common.{◌≡◌, ℕ, ◌+◌, None, Some, Option, List, [], ◌∷◌, ◌++◌, drop, refl, ap, sym, ◌∙◌, append_assoc, append-nil}
use Rattle.sv2_types.specs.declared.sequences.SeqBytes.{SeqBytes}
use Rattle.job_declaration.specs.declared.ids.Listed.{Listed}
use Rattle.job_declaration.specs.declared.ids.TxIds.{TxIds}
use Rattle.job_declaration.specs.Filling.{and_others, filled}
use Rattle.job_declaration.specs.declared.filling.Next.{Next}
use Rattle.job_declaration.specs.Filled.{IsNext, parts_of}

-- ids that were found before others
abbrev pub behind : List TxIds → Option (List TxIds) → Option (List TxIds)
behind done None = None
behind done (Some later) = Some (done ++ later)

behind-and : (done : List TxIds) (ids : TxIds) (later : Option (List TxIds))
    → behind done (and_others ids.wtxid (Some ids.txid) later) ≡ behind (done ++ ids ∷ []) later
behind-and done ids None = refl
behind-and done ids (Some later) =
    ap (λ all. Some all) (sym (append_assoc done (ids ∷ []) later))

-- one more entry is filled
pub filled-more : (listed : List Listed) (brought : List (List ℕ)) (done : List TxIds) (i : ℕ)
    (entry : Listed) (left : SeqBytes) (next : Next)
    → filled listed brought ≡ behind done (filled (drop i listed) (parts_of left))
    → drop i listed ≡ entry ∷ drop (i + 1) listed → IsNext entry left (Some next)
    → filled listed brought
    ≡ behind (done ++ next.ids ∷ []) (filled (drop (i + 1) listed) (parts_of next.left))
filled-more listed brought done i entry left next so_far at found =
    so_far ∙ ap (λ rest. behind done (filled rest (parts_of left))) at
    ∙ ap (behind done) (found (λ rest. filled (drop (i + 1) listed) rest))
    ∙ behind-and done next.ids (filled (drop (i + 1) listed) (parts_of next.left))

-- or an entry can't be
pub filled-none : (listed : List Listed) (brought : List (List ℕ)) (done : List TxIds) (i : ℕ)
    (entry : Listed) (left : SeqBytes)
    → filled listed brought ≡ behind done (filled (drop i listed) (parts_of left))
    → drop i listed ≡ entry ∷ drop (i + 1) listed → IsNext entry left None
    → filled listed brought ≡ None
filled-none listed brought done i entry left so_far at next =
    so_far ∙ ap (λ rest. behind done (filled rest (parts_of left))) at
    ∙ ap (behind done) (next (λ rest. filled (drop (i + 1) listed) rest))

-- all are, and nothing is left over; or something is
pub filled-all : (listed : List Listed) (brought rest : List (List ℕ)) (done : List TxIds) (i : ℕ)
    → filled listed brought ≡ behind done (filled (drop i listed) rest)
    → drop i listed ≡ [] → rest ≡ [] → filled listed brought ≡ Some done
filled-all listed brought rest done i so_far no_entry no_rest =
    so_far ∙ ap (λ entries. behind done (filled entries rest)) no_entry
    ∙ ap (λ left. behind done (filled [] left)) no_rest ∙ ap (λ all. Some all) (append-nil done)

pub filled-over : (listed : List Listed) (brought rest : List (List ℕ)) (done : List TxIds) (i : ℕ)
    → filled listed brought ≡ behind done (filled (drop i listed) rest)
    → drop i listed ≡ [] → (rest ≡ [] → ⊥) → filled listed brought ≡ None
filled-over listed brought [] done i so_far no_entry some = absurd (some refl)
filled-over listed brought (first ∷ others) done i so_far no_entry some =
    so_far ∙ ap (λ entries. behind done (filled entries (first ∷ others))) no_entry
