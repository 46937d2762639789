-- What rows show of a key tells the key: what is shown exactly is read back, and of two keys that are shown without their middle the ends tell them apart.
use Rattle.std.proofs.Common.{◌≡◌, ℕ, zero, suc, pred, ◌+◌, ◌-◌, ◌*◌, Bool, true, false, not, cond, ◌&&◌, ◌||◌, List, [], ◌∷◌, ◌++◌, map, nat_eq, nat_lt, if◌then◌else◌}
use Rattle.std.proofs.Common.{refl, sym, ap, ◌∙◌, append_assoc, append-nil, codes, bytes_eq, arith}
use Rattle.std.proofs.lemmas.Bool.{true≢false, and_parts, and_from, not-true, or_left, or_right}
use Rattle.std.proofs.lemmas.Bool.Decides.{nat_tests}
use Rattle.std.proofs.lemmas.Nat.{div-add-mod'}
use Rattle.std.proofs.lemmas.Slice.Eq.{bytes_eq-Decides}
use Rattle.stm_formats.specs.declared.format_keys.Cuts.{Cuts}
use Rattle.stm_formats.specs.FormatShown.{hidden_from, digit, byte_text, shown_after, plain, key_front, key_back, key_cut}
use Rattle.stm_formats.specs.FormatKeys.{is_among, is_twin, has_twin}
use Rattle.stm_report_laws.specs.FormatLaws.{KeysApart}

-- the number of a digit
abbrev number_of : ℕ → ℕ
number_of c = if nat_lt c 58 then c - 48 else c - 87

of_digit : (n : ℕ) → number_of (digit n) ≡ n
of_digit n = grind (arith, nat_tests)

-- What was shown, read back from its front: each byte, as one more, and 0 where a middle is left out. So many characters of a backslash, an `x` and two digits
-- were read, and the first digit; or (4) a backslash and a point.
abbrev read : ℕ → ℕ → List ℕ → List ℕ
read seen high [] = []
read zero high (c ∷ cs) = if nat_eq c 92 then read 1 0 cs else suc c ∷ read 0 0 cs
read (suc zero) high (c ∷ cs) = if nat_eq c 92 then 93 ∷ read 0 0 cs else (if nat_eq c 46 then 0 ∷ read 4 0 cs else read 2 0 cs)
read (suc (suc zero)) high (c ∷ cs) = read 3 c cs
read (suc (suc (suc zero))) high (c ∷ cs) = suc (number_of high * 16 + number_of c) ∷ read 0 0 cs
read (suc (suc (suc (suc more)))) high (c ∷ cs) = read 0 0 cs

other_by : (is : Bool) (here other : List ℕ) → is ≡ false → cond is other here ≡ here
other_by is here other not = grind (arith, nat_tests)

spelled_by : (is : Bool) (b : ℕ) (rest : List ℕ) → nat_eq b 92 ≡ is → read 0 0 (cond is (92 ∷ 92 ∷ []) (b ∷ []) ++ rest) ≡ suc b ∷ read 0 0 rest
spelled_by is b rest at = grind (arith, nat_tests, other_by)

of_byte : (hidden b : ℕ) (rest : List ℕ) → read 0 0 (byte_text true hidden b ++ rest) ≡ suc b ∷ read 0 0 rest
of_byte hidden b rest = grind (arith, nat_tests, spelled_by, of_digit, div-add-mod')

of_shown : (left : ℕ) (text rest : List ℕ) → read 0 0 (shown_after true left text ++ rest) ≡ map suc text ++ read 0 0 rest
of_shown left [] rest = refl
of_shown left (b ∷ bs) rest =
    let hidden : ℕ = hidden_from left (b ∷ bs) in
    let later : List ℕ = shown_after true (pred hidden) bs in
    ap (read 0 0) (append_assoc (byte_text true hidden b) later rest)
    ∙ of_byte hidden b (later ++ rest)
    ∙ ap (λ (t : List ℕ). suc b ∷ t) (of_shown (pred hidden) bs rest)

-- a whole key
of_plain : (key : List ℕ) → read 0 0 (plain key) ≡ map suc key
of_plain key = ap (read 0 0) (sym (append-nil (plain key))) ∙ of_shown 0 key [] ∙ append-nil (map suc key)

-- one without its middle
of_cut : (most : ℕ) (key : List ℕ) → read 0 0 (key_cut most key) ≡ map suc (key_front most key) ++ 0 ∷ map suc (key_back most key)
of_cut most key =
    let last : List ℕ = plain (key_back most key) in
    ap (read 0 0) (append_assoc (plain (key_front most key)) (codes "\\..") last)
    ∙ of_shown 0 (key_front most key) (codes "\\.." ++ last)
    ∙ ap (λ (t : List ℕ). map suc (key_front most key) ++ 0 ∷ t) (of_plain (key_back most key))

-- ---- what stands before the middle that is left out, and after it

abbrev before : List ℕ → List ℕ
before [] = []
before (zero ∷ cs) = []
before (suc b ∷ cs) = b ∷ before cs

abbrev after : List ℕ → List ℕ
after [] = []
after (zero ∷ cs) = cs
after (suc b ∷ cs) = after cs

abbrev is_cut : List ℕ → Bool
is_cut [] = false
is_cut (zero ∷ cs) = true
is_cut (suc b ∷ cs) = is_cut cs

before_whole : (text : List ℕ) → before (map suc text) ≡ text
before_whole [] = refl
before_whole (b ∷ bs) = ap (λ (t : List ℕ). b ∷ t) (before_whole bs)

before_cut : (text rest : List ℕ) → before (map suc text ++ 0 ∷ rest) ≡ text
before_cut [] rest = refl
before_cut (b ∷ bs) rest = ap (λ (t : List ℕ). b ∷ t) (before_cut bs rest)

after_cut : (text rest : List ℕ) → after (map suc text ++ 0 ∷ rest) ≡ rest
after_cut [] rest = refl
after_cut (b ∷ bs) rest = after_cut bs rest

is_whole : (text : List ℕ) → is_cut (map suc text) ≡ false
is_whole [] = refl
is_whole (b ∷ bs) = is_whole bs

has_middle : (text rest : List ℕ) → is_cut (map suc text ++ 0 ∷ rest) ≡ true
has_middle [] rest = refl
has_middle (b ∷ bs) rest = has_middle bs rest

-- ---- two keys that are shown alike

both_whole : (a b : List ℕ) → plain a ≡ plain b → a ≡ b
both_whole a b same =
    sym (before_whole a) ∙ ap before (sym (of_plain a) ∙ ap (read 0 0) same ∙ of_plain b) ∙ before_whole b

one_whole : (most : ℕ) (a b : List ℕ) → key_cut most a ≡ plain b → a ≡ b
one_whole most a b same =
    absurd (true≢false (sym (has_middle (key_front most a) (map suc (key_back most a)))
    ∙ ap is_cut (sym (of_cut most a) ∙ ap (read 0 0) same ∙ of_plain b) ∙ is_whole b))

read_alike : (most : ℕ) (a b : List ℕ) → key_cut most a ≡ key_cut most b
    → map suc (key_front most a) ++ 0 ∷ map suc (key_back most a) ≡ map suc (key_front most b) ++ 0 ∷ map suc (key_back most b)
read_alike most a b same = sym (of_cut most a) ∙ ap (read 0 0) same ∙ of_cut most b

same_fronts : (most : ℕ) (a b : List ℕ) → key_cut most a ≡ key_cut most b → key_front most a ≡ key_front most b
same_fronts most a b same =
    sym (before_cut (key_front most a) (map suc (key_back most a)))
    ∙ ap before (read_alike most a b same)
    ∙ before_cut (key_front most b) (map suc (key_back most b))

same_backs : (most : ℕ) (a b : List ℕ) → key_cut most a ≡ key_cut most b → key_back most a ≡ key_back most b
same_backs most a b same =
    let rests : map suc (key_back most a) ≡ map suc (key_back most b) =
    sym (after_cut (key_front most a) (map suc (key_back most a)))
    ∙ ap after (read_alike most a b same)
    ∙ after_cut (key_front most b) (map suc (key_back most b)) in
    sym (before_whole (key_back most a)) ∙ ap before rests ∙ before_whole (key_back most b)

-- another one of these keys with the same ends
twin_by : (is : Bool) (most : ℕ) (a b key : List ℕ) (keys : List (List ℕ)) → bytes_eq key b ≡ is → is_twin most a b ≡ true
    → (is_among b keys ≡ true → has_twin most a keys ≡ true) → (is || is_among b keys) ≡ true → (is_twin most a key || has_twin most a keys) ≡ true
twin_by is most a b key keys h7 twin later among = grind (arith, nat_tests, or_left, bytes_eq-Decides, or_right)

twin_at : (most : ℕ) (a b : List ℕ) (keys : List (List ℕ)) → is_twin most a b ≡ true → is_among b keys ≡ true → has_twin most a keys ≡ true
unfolding is_among has_twin
twin_at most a b [] twin among = absurd (true≢false (sym among))
twin_at most a b (key ∷ keys) twin among = twin_by (bytes_eq key b) most a b key keys refl twin (twin_at most a b keys twin) among

is_twin_of : (most : ℕ) (a b : List ℕ) → bytes_eq b a ≡ false → key_front most a ≡ key_front most b → key_back most a ≡ key_back most b → is_twin most a b ≡ true
is_twin_of most a b other fronts backs = grind (arith, nat_tests, and_from, bytes_eq-Decides)

both_cut : (cuts : Cuts) (a b : List ℕ) → (is_among a cuts.keys && not (has_twin cuts.key a cuts.keys)) ≡ true
    → (is_among b cuts.keys && not (has_twin cuts.key b cuts.keys)) ≡ true → key_cut cuts.key a ≡ key_cut cuts.key b → a ≡ b
both_cut cuts a b first second same = same_by (bytes_eq b a) refl
  where
    alone : has_twin cuts.key a cuts.keys ≡ false
    alone = not-true (has_twin cuts.key a cuts.keys) (and_parts (is_among a cuts.keys) (not (has_twin cuts.key a cuts.keys)) first).1

    listed : is_among b cuts.keys ≡ true
    listed = (and_parts (is_among b cuts.keys) (not (has_twin cuts.key b cuts.keys)) second).0

    same_by : (is : Bool) → bytes_eq b a ≡ is → a ≡ b
    same_by true is = sym ((bytes_eq-Decides b a).0 is)
    same_by false is =
        absurd (true≢false (sym (twin_at cuts.key a b cuts.keys
        (is_twin_of cuts.key a b is (same_fronts cuts.key a b same) (same_backs cuts.key a b same)) listed) ∙ alone))

by_looks : (cuts : Cuts) (a b : List ℕ) (first second : Bool) → (is_among a cuts.keys && not (has_twin cuts.key a cuts.keys)) ≡ first
    → (is_among b cuts.keys && not (has_twin cuts.key b cuts.keys)) ≡ second
    → cond first (key_cut cuts.key a) (plain a) ≡ cond second (key_cut cuts.key b) (plain b) → a ≡ b
by_looks cuts a b first second is also same = grind (arith, nat_tests, both_cut, one_whole, both_whole)

pub keys_apart : KeysApart
keys_apart cuts a b same = by_looks cuts a b _ _ refl refl same
