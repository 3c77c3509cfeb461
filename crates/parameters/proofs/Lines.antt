-- The lines of a file are the pieces that `split_inclusive` gives, each without its newline.
use Rattle.std.proofs.Common.{◌⊎◌, map, append_assoc, MatchOption, ◌≡◌, ℕ, ◌+◌, ◌<◌, ◌≤◌, min, Bool, false, eqb, List, [], ◌∷◌, ◌++◌, length, get_or, take, Some, None, Option, sym, refl, ap, subst, ◌∙◌, arith, All, inl, inr, length-append, Bor}
use Rattle.std.specs.Fn.{ComputesKey, CalledAt}
use Rattle.std.specs.Iterator.{Yields}
use Rattle.std.specs.List.{IsFirstMatchOrLen}
use Rattle.std.specs.Slice.Iter.{split_inclusive_rest, split_inclusive_callee}
use Rattle.std.specs.declared.slice.SplitInclusive.{SplitInclusive}
use denote.Param.Members.{Mut}
use Rattle.std.proofs.lemmas.Fn.{always_returns_same}
use Rattle.std.proofs.lemmas.Iterator.{YieldsList}
use Rattle.std.proofs.lemmas.Iterator.Consumers.{YieldsList-turn, YieldsList-end}
use Rattle.std.proofs.lemmas.Iterator.Splits.{YieldsList-from_shown_while}
use Rattle.std.proofs.lemmas.Bool.{eqb-true, ne_eqb, cases_lt}
use Rattle.std.proofs.lemmas.List.{nil_from_length}
use Rattle.std.proofs.lemmas.List.Elements.{All-head, All-tail}
use Rattle.std.proofs.lemmas.Grind.{common_steps}
use Rattle.datatypes.specs.Meaning.{Bytes}
use Rattle.parameters.specs.Lines.{prepend, lines_of, without_newline}

-- ---- a newline at the end

pub without_newline_ended : (x : Bytes) → without_newline (x ++ 10 ∷ []) ≡ x
without_newline_ended [] = refl
without_newline_ended (b ∷ []) = refl
without_newline_ended (b ∷ c ∷ x) = ap (λ t. b ∷ t) (without_newline_ended (c ∷ x))

pub without_newline_unended : (s : Bytes) → ((front : Bytes) → s ≡ front ++ 10 ∷ [] → ⊥) → without_newline s ≡ s
without_newline_unended [] h = refl
without_newline_unended (b ∷ []) h = rw (ne_eqb b 10 (λ e. h [] (ap (λ c. c ∷ []) e)))
without_newline_unended (b ∷ c ∷ s) h = ap (λ t. b ∷ t) (without_newline_unended (c ∷ s) (λ front e. h (b ∷ front) (ap (λ t. b ∷ t) e)))

-- ---- pieces: xs begins with x, and i is the place of its first newline, or its length

abbrev LacksNewline : Bytes → Type 0
LacksNewline x = All (λ b. eqb b 10 ≡ false) x

without_newline_lacks : (x : Bytes) → LacksNewline x → without_newline x ≡ x
without_newline_lacks x h = without_newline_unended x (λ front e. let a = h (length front) 0 in grind (arith, common_steps))

lines_of_first : (x y : Bytes) → LacksNewline x → lines_of (x ++ 10 ∷ y) ≡ x ∷ lines_of y
lines_of_first [] y h = refl
lines_of_first (b ∷ x) y h = rw (All-head (λ b. eqb b 10 ≡ false) b x h) (ap (prepend b) (lines_of_first x y (All-tail (λ b. eqb b 10 ≡ false) b x h)))

lines_of_last : (x : Bytes) → 0 < length x → LacksNewline x → lines_of x ≡ x ∷ []
lines_of_last [] some h = absurd (omega arith)
lines_of_last (b ∷ []) some h = rw (All-head (λ b. eqb b 10 ≡ false) b [] h)
lines_of_last (b ∷ c ∷ x) some h =
    rw (All-head (λ b. eqb b 10 ≡ false) b (c ∷ x) h) (ap (prepend b) (lines_of_last (c ∷ x) (omega arith) (All-tail (λ b. eqb b 10 ≡ false) b (c ∷ x) h)))

piece_ended : (xs x rest : Bytes) (i : ℕ) → xs ≡ x ++ rest → length x ≡ i + 1 → IsFirstMatchOrLen (λ b. eqb b 10) xs i → i < length xs → lines_of xs ≡ without_newline x ∷ lines_of rest
piece_ended xs x rest i whole size first lt =
    let front : LacksNewline (take i x) = λ k d l. let a = first.0 k d in grind (arith, common_steps) in
    let hit : get_or x i 0 ≡ 10 = let a = eqb-true (get_or xs i 0) 10 (first.1 lt 0) in grind (arith, common_steps) in
    let ended : x ≡ take i x ++ 10 ∷ [] = grind (arith, common_steps) in
    ap lines_of (whole ∙ ap (λ t. t ++ rest) ended ∙ append_assoc (take i x) (10 ∷ []) rest) ∙ lines_of_first (take i x) rest front
    ∙ ap (λ l. l ∷ lines_of rest) (sym (ap without_newline ended ∙ without_newline_ended (take i x)))

piece_last : (xs x rest : Bytes) (i : ℕ) → xs ≡ x ++ rest → length x ≡ length xs → IsFirstMatchOrLen (λ b. eqb b 10) xs i → length xs ≤ i → 0 < length xs → lines_of xs ≡ without_newline x ∷ lines_of rest
piece_last xs x rest i whole size first le some =
    let none : rest ≡ [] = nil_from_length rest (omega (arith, ap length whole, length-append x rest)) in
    let same : xs ≡ x = grind (arith, common_steps) in
    let lacks : LacksNewline x = λ k d l. let a = first.0 k d in grind (arith, common_steps) in
    ap lines_of same ∙ lines_of_last x (omega arith) lacks ∙ ap (λ l. l ∷ []) (sym (without_newline_lacks x lacks)) ∙ ap (λ r. without_newline x ∷ lines_of r) (sym none)

piece : (xs x rest : Bytes) (i : ℕ) → xs ≡ x ++ rest → length x ≡ min (i + 1) (length xs) → IsFirstMatchOrLen (λ b. eqb b 10) xs i → 0 < length xs → lines_of xs ≡ without_newline x ∷ lines_of rest
piece xs x rest i whole size first some = go (cases_lt i (length xs))
  where
    go : (i < length xs) ⊎ (length xs ≤ i) → lines_of xs ≡ without_newline x ∷ lines_of rest
    go (inl lt) = piece_ended xs x rest i whole (omega arith) first lt
    go (inr le) = piece_last xs x rest i whole (omega arith) first le some

-- ---- the chain

module _ {F : Type 0} (g : Mut F (Bor ℕ × Unit {0}) Bool) where
  -- the closure f answers whether a byte is a newline
  abbrev FindsNewline : F → Type 0
  FindsNewline f = (x : ℕ) (b : Bool) (q : F) → CalledAt g f x b q → (q ≡ f) × (b ≡ eqb x 10)

  -- what `next` gives
  abbrev pieces : SplitInclusive ℕ F → Option (Bor Bytes) → SplitInclusive ℕ F → Type 0
  pieces s r t = MatchOption r ((length (split_inclusive_rest s) ≡ 0) × (t ≡ s))
      (λ x. (split_inclusive_rest s ≡ x.now ++ split_inclusive_rest t)
      × ((i : ℕ) × (length x.now ≡ min (i + 1) (length (split_inclusive_rest s))) × ((p : ℕ → Bool) → ComputesKey g p (split_inclusive_callee s) → ComputesKey g p (split_inclusive_callee t) × IsFirstMatchOrLen p (split_inclusive_rest s) i))
      × (0 < length (split_inclusive_rest s)))

  -- a file that a closure cuts behind each newline; the first two facts are the clauses `rest` and `closure` of `split_inclusive`
  YieldsList-from_pieces : {s : _} {f : F} (file : Bytes) → split_inclusive_rest s ≡ file → split_inclusive_callee s ≡ f → FindsNewline f → YieldsList pieces (λ x. without_newline x.now) s (lines_of file)
  YieldsList-from_pieces {s} {f} file rest closure tests =
      let p = λ (b : ℕ). eqb b 10 in
      subst (λ l. YieldsList pieces (λ x. without_newline x.now) s (lines_of l)) rest
      (YieldsList-from_shown_while pieces (λ x. without_newline x.now) (λ t. lines_of (split_inclusive_rest t)) (λ t. ComputesKey g p (split_inclusive_callee t))
      (λ t u h k. ap (λ l. length (lines_of l)) (nil_from_length _ k.0))
      (λ t x u h k. let cut = k.1 in let found = cut.2 p h in (found.0, piece _ x.now _ cut.0 k.0 cut.1 found.1 k.2))
      s (subst (ComputesKey g p) (sym closure) (always_returns_same g (λ a r. r ≡ p a.0.now) f (λ a r q k. let m = tests a.0.now r q (record { shown = a.0; shows = refl; called = k }) in (m.1, m.0)))))

-- a file has no more lines than bytes
length-prepend : (b : ℕ) (ss : List Bytes) → length (prepend b ss) ≤ length ss + 1
length-prepend b [] = omega arith
length-prepend b (s ∷ ss) = omega arith

length-lines_of : (s : Bytes) → length (lines_of s) ≤ length s
length-lines_of [] = omega arith
length-lines_of (b ∷ s) = grind (arith, length-prepend b (lines_of s), length-lines_of s)

-- ---- a `for` over the pieces, which has yielded xs; the facts after `yielded_by` are the clauses of `split_inclusive` and of `next`
module _ {F : Type 0} {g : Mut F (Bor ℕ × Unit {0}) Bool} {f : F} (file : Bytes) (s t : SplitInclusive ℕ F) (xs : List (Bor Bytes)) (yielded : Yields (pieces g) s xs t) (rest : split_inclusive_rest s ≡ file) (closure : split_inclusive_callee s ≡ f) where
  pub some_piece : (r : Option (Bor Bytes)) (u : SplitInclusive ℕ F) (x : Bor Bytes) → r ≡ Some x → pieces g t r u → FindsNewline g f → length xs < length file
  some_piece r u x is step tests =
      let turn = YieldsList-turn (YieldsList-from_pieces g file rest closure tests) xs t yielded r u x is step in
      omega (arith, turn.0, length-lines_of file)

  pub no_piece : (r : Option (Bor Bytes)) (u : SplitInclusive ℕ F) → r ≡ None → pieces g t r u → FindsNewline g f → map (λ x. without_newline x.now) xs ≡ lines_of file
  no_piece r u is step tests = (YieldsList-end (YieldsList-from_pieces g file rest closure tests) xs t yielded r u is step).0
