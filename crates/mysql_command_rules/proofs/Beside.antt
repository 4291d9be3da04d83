-- Types, parts and contents side by side, one place after another.
use Rattle.std.proofs.Common.{◌≡◌, ℕ, zero, suc, List, [], ◌∷◌, Some, refl, subst, arith}
use Rattle.std.specs.Prelude.{slice_get}
use Rattle.mysql_values.specs.Content.{Content}
use Rattle.mysql_receive.specs.declared.param_type.ParamType.{ParamType}
use Rattle.mysql_receive.specs.Layout.{Types}
use Rattle.mysql_receive.specs.Reading.{Set}
use Rattle.mysql_command_rules.specs.Manual.{SideBySide}

-- what is said of a place
abbrev pub Said : Type 1
Said = ℕ → ParamType → List ℕ → Content → Type 0

-- the same of the place behind
abbrev pub next : Said → Said
next Holds place = Holds (suc place)

pub beside_none : (Holds : Said) → SideBySide Holds [] [] []
beside_none Holds = record { part_count = refl; content_count = refl; each = λ place t part held p q r. absurd cc }

pub beside_more : (Holds : Said) (t : ParamType) (types : Types) (part : List ℕ)
    (parts : List (List ℕ)) (held : Content) (set : Set) →
    Holds 0 t part held → SideBySide (next Holds) types parts set →
    SideBySide Holds (t ∷ types) (part ∷ parts) (held ∷ set)
beside_more Holds t types part parts held set first others = record {
  part_count = omega (arith, others.part_count);
  content_count = omega (arith, others.content_count);
  each = at;
}
  where
    at : (place : ℕ) (u : ParamType) (bytes : List ℕ) (x : Content) → slice_get (t ∷ types) place ≡
        Some u → slice_get (part ∷ parts) place ≡ Some bytes → slice_get (held ∷ set) place ≡
        Some x → Holds place u bytes x
    at zero u bytes x p q r =
        let one : t ≡ u = cc in
        let two : part ≡ bytes = cc in
        let three : held ≡ x = cc in
        subst (λ (y : Content). Holds 0 u bytes y) three
        (subst (λ (l : List ℕ). Holds 0 u l held) two
        (subst (λ (v : ParamType). Holds 0 v part held) one first))
    at (suc place) u bytes x p q r = others.each place u bytes x p q r

pub beside_first : (Holds : Said) (t : ParamType) (types : Types) (part : List ℕ)
    (parts : List (List ℕ)) (held : Content) (set : Set) →
    SideBySide Holds (t ∷ types) (part ∷ parts) (held ∷ set) → Holds 0 t part held
beside_first Holds t types part parts held set all = all.each 0 t part held refl refl refl

pub beside_others : (Holds : Said) (t : ParamType) (types : Types) (part : List ℕ)
    (parts : List (List ℕ)) (held : Content) (set : Set) →
    SideBySide Holds (t ∷ types) (part ∷ parts) (held ∷ set) → SideBySide (next Holds) types parts set
beside_others Holds t types part parts held set all = record {
  part_count = omega (arith, all.part_count);
  content_count = omega (arith, all.content_count);
  each = λ place u bytes x p q r. all.each (suc place) u bytes x p q r;
}

pub beside_same : (P Q : Said) (types : Types) (parts : List (List ℕ)) (set : Set) →
    ((place : ℕ) (t : ParamType) (part : List ℕ) (held : Content) → P place t part held →
    Q place t part held) →
    SideBySide P types parts set → SideBySide Q types parts set
beside_same P Q types parts set each all = record {
  part_count = all.part_count;
  content_count = all.content_count;
  each = λ place t part held p q r. each place t part held (all.each place t part held p q r);
}
