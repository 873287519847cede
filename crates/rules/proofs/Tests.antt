-- Laws of `passes`, `all`, `any` and `count`.
use Rattle.std.proofs.Common.{◌≡◌, ℕ, suc, Bool, true, false, cond, not, ◌&&◌, ◌||◌, List, [], ◌∷◌, map, is_some, Some, None, Option, sym, refl, ◌∙◌, ap₂}
use Rattle.std.specs.List.{AllByRecursion}
use Rattle.rules.specs.Value.{Member, Shape, null, boolean, number, text, list, object, as_list, as_object, parts}
use Rattle.rules.specs.Book.{IfThere}
use Rattle.rules.specs.Meaning.{passes, all, any, count}

pub always : {A : Type 0} (o : Option A) (P : A → Type 0) → ((x : A) → P x) → IfThere o P
always None P h = tt
always (Some x) P h = h x

pub weaker : {A : Type 0} (o : Option A) (P Q : A → Type 0) → ((x : A) → P x → Q x) → IfThere o P → IfThere o Q
weaker None P Q f h = tt
weaker (Some x) P Q f h = f x h

-- the parts of a list are its elements, and those of an object its members' nodes
pub in_list : {K : Type 0} (s : Shape K) (P : ℕ → Type 0) → AllByRecursion P (parts s) → IfThere (as_list s) (λ es. AllByRecursion P es)
in_list null P h = tt
in_list (boolean b) P h = tt
in_list (number x) P h = tt
in_list (text s) P h = tt
in_list (list es) P h = h
in_list (object ms) P h = tt

members : (ms : List Member) (P : ℕ → Type 0) → AllByRecursion P (map (λ m. m.node) ms) → AllByRecursion (λ m. P m.node) ms
members [] P h = tt
members (m ∷ ms) P h = (h.0, members ms P h.1)

pub in_object : {K : Type 0} (s : Shape K) (P : ℕ → Type 0) → AllByRecursion P (parts s) → IfThere (as_object s) (λ ms. AllByRecursion (λ m. P m.node) ms)
in_object null P h = tt
in_object (boolean b) P h = tt
in_object (number x) P h = tt
in_object (text s) P h = tt
in_object (list es) P h = tt
in_object (object ms) P h = members ms P h

pub passes_same : {A : Type 0} (o : Option A) (f g : A → Bool) → IfThere o (λ x. f x ≡ g x) → passes o f ≡ passes o g
passes_same None f g h = refl
passes_same (Some x) f g h = h

-- the complement of a test on a type
pub passes_not : {A : Type 0} (o : Option A) (f g : A → Bool) → IfThere o (λ x. g x ≡ not (f x)) → (is_some o && passes o g) ≡ not (passes o f)
passes_not None f g h = refl
passes_not (Some x) f g h = h

pub passes_or : {A : Type 0} (o : Option A) (f g k : A → Bool) → IfThere o (λ x. (g x || k x) ≡ not (f x)) →
    (is_some o && (passes o g || passes o k)) ≡ not (passes o f)
passes_or None f g k h = refl
passes_or (Some x) f g k h = h

pub passes_always : {A : Type 0} (o : Option A) (f : A → Bool) → IfThere o (λ x. f x ≡ true) → passes o f ≡ true
passes_always None f h = refl
passes_always (Some x) f h = h

pub not_and : (a b : Bool) → not (a && b) ≡ (not a || not b)
not_and true b = refl
not_and false b = refl

pub not_or : (a b : Bool) → not (a || b) ≡ (not a && not b)
not_or true b = refl
not_or false b = refl

pub not_not : (a : Bool) → not (not a) ≡ a
not_not true = refl
not_not false = refl

module _ {A : Type 0} (f g : A → Bool) where
  pub all_same : (xs : List A) → AllByRecursion (λ x. f x ≡ g x) xs → all f xs ≡ all g xs
  all_same [] h = refl
  all_same (x ∷ xs) h = ap₂ ◌&&◌ h.0 (all_same xs h.1)

  pub any_same : (xs : List A) → AllByRecursion (λ x. f x ≡ g x) xs → any f xs ≡ any g xs
  any_same [] h = refl
  any_same (x ∷ xs) h = ap₂ ◌||◌ h.0 (any_same xs h.1)

  pub count_same : (xs : List A) → AllByRecursion (λ x. f x ≡ g x) xs → count f xs ≡ count g xs
  count_same [] h = refl
  count_same (x ∷ xs) h = ap₂ (λ b n. cond b (suc n) n) h.0 (count_same xs h.1)

  pub not_all : (xs : List A) → AllByRecursion (λ x. g x ≡ not (f x)) xs → any g xs ≡ not (all f xs)
  not_all [] h = refl
  not_all (x ∷ xs) h = ap₂ ◌||◌ h.0 (not_all xs h.1) ∙ sym (not_and (f x) (all f xs))

  pub not_any : (xs : List A) → AllByRecursion (λ x. g x ≡ not (f x)) xs → all g xs ≡ not (any f xs)
  not_any [] h = refl
  not_any (x ∷ xs) h = ap₂ ◌&&◌ h.0 (not_any xs h.1) ∙ sym (not_or (f x) (any f xs))
