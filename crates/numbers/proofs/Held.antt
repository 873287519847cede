-- The laws of a kind hold too where its values are held in another type.
use Rattle.std.proofs.Common.{◌≡◌, ℕ, ◌≤◌, List, ◌∷◌, length, Some, None, Option, Equal, sym, refl, ap, ◌∙◌, subst, inl, inr, ⊎_elim}
use Rattle.std.specs.Option.{option_map}
use Rattle.numbers.specs.Grammar.{Token}
use Rattle.numbers.specs.Kinds.{Kind, ReadsAs, ReadsValue, Kept, held}
use Rattle.numbers.specs.Laws.{Lawful, Keeps}

from_mapped : {V K : Type 0} (hold : V → K) (o : Option V) (x : K) → option_map hold o ≡ Some x → (v : V) × (o ≡ Some v) × (hold v ≡ x)
from_mapped hold None x h = cc
from_mapped hold (Some v) x h = (v, refl, cc)

pub held_lawful : {V K : Type 0} (kind : Kind V) (hold : V → K) (value : K → V) → ((v : V) → value (hold v) ≡ v) → Lawful kind → Lawful (held kind hold value)
held_lawful kind hold value same l = record {
  turns = λ x y. l.turns (value x) (value y);
  levels = λ x y z. l.levels (value x) (value y) (value z);
  reads_tokens = λ bs x h. let f = from_mapped hold (kind.read bs) x h in l.reads_tokens bs f.0 f.1;
  reads_zero = ap (option_map hold) l.reads_zero;
  writes_back = λ bs x h.
      let f = from_mapped hold (kind.read bs) x h in
      let is : f.0 ≡ value x = sym (same f.0) ∙ ap value f.2 in
      let w = l.writes_back bs f.0 f.1 in (
        subst (λ v. Token (kind.written v)) is w.0,
        subst (λ v. length (kind.written v) ≤ kind.longest) is w.1,
        ap (λ v. option_map hold (kind.read (kind.written v))) (sym is) ∙ ap (option_map hold) w.2 ∙ ap Some f.2,
      );
}

pub held_reads : {V K : Type 0} (kind : Kind V) (hold : V → K) (value : K → V) (Means : List ℕ → V → Type 0)
    → ((v : V) → value (hold v) ≡ v) → ReadsAs kind Means → (bs : List ℕ) (r : Option K) → r ≡ (held kind hold value).read bs → ReadsValue Means value bs r
held_reads kind hold value Means same reads bs (Some x) e =
    let f = from_mapped hold (kind.read bs) x (sym e) in
    subst (Means bs) (sym (same f.0) ∙ ap value f.2) ((reads bs f.0).0 f.1)
held_reads kind hold value Means same reads bs None e = λ v m.
    let is : option_map hold (kind.read bs) ≡ Some (hold v) = ap (option_map hold) ((reads bs v).1 m) in
    cc

pub held_keeps : {V K : Type 0} (kind : Kind V) (hold : V → K) (value : K → V) → ((v : V) → value (hold v) ≡ v) → Keeps kind
    → (bs : List ℕ) (r : Option K) → r ≡ (held kind hold value).read bs → Kept (held kind hold value) bs r
held_keeps kind hold value same keeps bs None e = tt
held_keeps kind hold value same keeps bs (Some x) e =
    let f = from_mapped hold (kind.read bs) x (sym e) in
    let is : f.0 ≡ value x = sym (same f.0) ∙ ap value f.2 in
    let kept : Kept kind bs (Some (value x)) = subst (Kept kind bs) (f.1 ∙ ap Some is) (keeps bs) in
    ⊎_elim (λ (w : bs ≡ kind.written (value x)). inl w)
    (λ (w : (bs ≡ 0x2D ∷ kind.written (value x)) × (kind.compare (value x) kind.zero ≡ Equal)).
    inr (w.0, ap (λ v. kind.compare (value x) v) (same kind.zero) ∙ w.1))
    kept
