-- The request that is read off a line is the one that the line makes. Assumes nothing.
use Rattle.std.proofs.Common.{◌≡◌, ℕ, suc, ◌<◌, ◌≤◌, Bool, true, false, cond, ◌&&◌, eqb, leb, List, [], ◌∷◌, ◌++◌, length, Some, None, Option, sym, refl, ap, ◌∙◌, subst, inl, inr, arith}
use Rattle.std.proofs.lemmas.Bool.{and_from, and_parts, le-leb, leb-true, eq-eqb, ne_eqb, cases_eq, cond-true, cond-false}
use Rattle.lines.specs.Matrix.{uplink, downlink}
use Rattle.script.proofs.Pieces.{some_piece}
use Rattle.script.specs.Words.{split, onto, spaced}
use Rattle.script.specs.Numerals.{all_digits, read_on, number_of, Writes}
use Rattle.script.specs.Commands.{letter, fits, shaped, readable, longest}
use Rattle.script.specs.Requests.{Request, numbers, Write, Makes, both, read_all, request, requested, asked, request_of, Meant}
use Rattle.script.specs.declared.commands.Command.TheVariants.{Lines, Fault, Post, Withdraw, Plan, Step, Run, Drop, Owed}

-- From a line that makes a request to the request that is read.

digit_no_space : (b : ℕ) (bs : List ℕ) → all_digits (b ∷ bs) ≡ true → eqb b 32 ≡ false
digit_no_space b bs h =
    let low : leb 48 b ≡ true = (and_parts (leb 48 b) (leb b 57) (and_parts (leb 48 b && leb b 57) (all_digits bs) h).0).0 in
    ne_eqb b 32 (λ e. omega (arith, leb-true 48 b low))

-- digits in front of what begins with a space, or is at its end
word_split : (w rest : List ℕ) (ws : List (List ℕ)) → all_digits w ≡ true → split rest ≡ [] ∷ ws → split (w ++ rest) ≡ w ∷ ws
word_split [] rest ws h e = e
word_split (b ∷ bs) rest ws h e =
    ap (λ (t : Bool). cond t ([] ∷ split (bs ++ rest)) (onto b (split (bs ++ rest)))) (digit_no_space b bs h)
    ∙ ap (onto b) (word_split bs rest ws (and_parts (leb 48 b && leb b 57) (all_digits bs) h).1 e)

spaced_split : (ws : List (List ℕ)) (ns : List ℕ) → Write ws ns → split (spaced ws) ≡ [] ∷ ws
spaced_split [] ns h = refl
spaced_split (w ∷ ws) [] h = absurd h
spaced_split (w ∷ ws) (n ∷ ns) h = ap (λ (ps : List (List ℕ)). [] ∷ ps) (word_split w (spaced ws) ws h.0.digits (spaced_split ws ns h.1))

number_written : (w : List ℕ) (n : ℕ) → Writes w n → number_of w ≡ Some n
number_written w n h =
    cond-true (leb 1 (length w) && leb (length w) 5) _ None (and_from (leb 1 (length w)) (leb (length w) 5) (le-leb 1 (length w) h.some) (le-leb (length w) 5 h.few))
    ∙ cond-true (all_digits w && leb (read_on 0 w) 65535) _ None (and_from (all_digits w) (leb (read_on 0 w) 65535) h.digits (le-leb (read_on 0 w) 65535 (omega (arith, h.value, h.small))))
    ∙ ap Some h.value

all_written : (ws : List (List ℕ)) (ns : List ℕ) → Write ws ns → read_all ws ≡ Some ns
all_written [] [] h = refl
all_written [] (n ∷ ns) h = absurd h
all_written (w ∷ ws) [] h = absurd h
all_written (w ∷ ws) (n ∷ ns) h = rw (number_written w n h.0, all_written ws ns h.1) refl

as_many : (ws : List (List ℕ)) (ns : List ℕ) → Write ws ns → length ws ≡ length ns
as_many [] [] h = refl
as_many [] (n ∷ ns) h = absurd h
as_many (w ∷ ws) [] h = absurd h
as_many (w ∷ ws) (n ∷ ns) h = ap suc (as_many ws ns h.1)

-- a request's letter is one character, and no space
letter_split : (q : Request) (ws : List (List ℕ)) → split (spaced ws) ≡ [] ∷ ws → split (letter q ++ spaced ws) ≡ letter q ∷ ws
letter_split (Lines n) ws e = ap (onto 110) e
letter_split (Fault i j c t) ws e = ap (onto 102) e
letter_split (Post i j u) ws e = ap (onto 112) e
letter_split (Withdraw i j u) ws e = ap (onto 119) e
letter_split Plan ws e = ap (onto 109) e
letter_split Step ws e = ap (onto 115) e
letter_split (Run b) ws e = ap (onto 114) e
letter_split Drop ws e = ap (onto 100) e
letter_split (Owed i j) ws e = ap (onto 111) e

letter_fits : (q : Request) → fits (letter q) (length (numbers q)) ≡ true
letter_fits (Lines n) = refl
letter_fits (Fault i j c t) = refl
letter_fits (Post i j u) = refl
letter_fits (Withdraw i j u) = refl
letter_fits Plan = refl
letter_fits Step = refl
letter_fits (Run b) = refl
letter_fits Drop = refl
letter_fits (Owed i j) = refl

letter_asks : (q : Request) → requested (letter q) (Some (numbers q)) ≡ Some q
letter_asks (Lines n) = refl
letter_asks (Fault i j c t) = refl
letter_asks (Post i j u) = refl
letter_asks (Withdraw i j u) = refl
letter_asks Plan = refl
letter_asks Step = refl
letter_asks (Run b) = refl
letter_asks Drop = refl
letter_asks (Owed i j) = refl

pub read_made : (line : List ℕ) (q : Request) → Makes line q → request_of line ≡ Some q
read_made line q m =
    let parts : split line ≡ letter q ∷ m.words = ap split m.laid ∙ letter_split q m.words (spaced_split m.words (numbers q) m.write) in
    let fit : shaped (split line) ≡ true = ap shaped parts ∙ ap (fits (letter q)) (as_many m.words (numbers q) m.write) ∙ letter_fits q in
    let good : readable line ≡ true = and_from (leb (length line) longest) (shaped (split line)) (le-leb (length line) longest m.short) fit in
    cond-true (readable line) (asked (split line)) None good ∙ ap asked parts ∙ ap (requested (letter q)) (all_written m.words (numbers q) m.write) ∙ letter_asks q

-- From the request that is read to a line that makes it.

-- a line from its pieces
abbrev joined : List (List ℕ) → List ℕ
joined [] = []
joined (w ∷ ws) = w ++ spaced ws

onto_joined : (b : ℕ) (ps : List (List ℕ)) → joined (onto b ps) ≡ b ∷ joined ps
onto_joined b [] = refl
onto_joined b (w ∷ ws) = refl

space_joined : (ps : List (List ℕ)) → 0 < length ps → joined ([] ∷ ps) ≡ 32 ∷ joined ps
space_joined [] l = absurd (omega arith)
space_joined (w ∷ ws) l = refl

split_joined : (line : List ℕ) → joined (split line) ≡ line
split_joined [] = refl
split_joined (b ∷ bs) =
    elim (cases_eq b 32) [
      | inl e ↦ rw e (space_joined (split bs) (some_piece bs) ∙ ap (λ (l : List ℕ). 32 ∷ l) (split_joined bs))
      | inr ne ↦ ap (λ (t : Bool). joined (cond t ([] ∷ split bs) (onto b (split bs)))) (ne_eqb b 32 ne) ∙ onto_joined b (split bs) ∙ ap (λ (l : List ℕ). b ∷ l) (split_joined bs)
    ]

some_none : {X : Type 0} (x : X) → None ≡ Some x → ⊥
some_none x e = let z : ◌≡◌ {A = ℕ} 0 1 = cc in omega arith

cond_some : {X : Type 0} (b : Bool) (o : Option X) (x : X) → cond b o None ≡ Some x → (b ≡ true) × (o ≡ Some x)
cond_some true o x e = (refl, e)
cond_some false o x e = absurd (some_none x e)

number_read : (w : List ℕ) (n : ℕ) → number_of w ≡ Some n → Writes w n
number_read w n e =
    let size = cond_some (leb 1 (length w) && leb (length w) 5) _ n e in
    let sizes = and_parts (leb 1 (length w)) (leb (length w) 5) size.0 in
    let rest = cond_some (all_digits w && leb (read_on 0 w) 65535) _ n size.1 in
    let facts = and_parts (all_digits w) (leb (read_on 0 w) 65535) rest.0 in
    let value : read_on 0 w ≡ n = let h = rest.1 in cc in record {
      some = leb-true 1 (length w) sizes.0;
      few = leb-true (length w) 5 sizes.1;
      digits = facts.0;
      value = value;
      small = omega (arith, leb-true (read_on 0 w) 65535 facts.1);
    }

both_write : (w : List ℕ) (ws : List (List ℕ)) (o : Option ℕ) (os : Option (List ℕ)) (ns : List ℕ) → ((n : ℕ) → o ≡ Some n → Writes w n) → ((ms : List ℕ) → os ≡ Some ms → Write ws ms) → both o os ≡ Some ns → Write (w ∷ ws) ns
both_write w ws None os ns f g e = absurd (some_none ns e)
both_write w ws (Some n) None ns f g e = absurd (some_none ns e)
both_write w ws (Some n) (Some ms) ns f g e = let same : n ∷ ms ≡ ns = cc in subst (Write (w ∷ ws)) same (f n refl, g ms refl)

all_read : (ws : List (List ℕ)) (ns : List ℕ) → read_all ws ≡ Some ns → Write ws ns
all_read [] ns e = let same : [] ≡ ns = cc in subst (Write []) same tt
all_read (w ∷ ws) ns e = both_write w ws (number_of w) (read_all ws) ns (number_read w) (all_read ws) e

-- l and ns are what a request is written with
abbrev Said : ℕ → List ℕ → Request → Type 0
Said l ns q = (letter q ≡ l ∷ []) × (numbers q ≡ ns)

-- the letter is k, or else the rest decides
pick : (l k : ℕ) (ns : List ℕ) (a q : Request) (o : Option Request) → cond (eqb l k) (Some a) o ≡ Some q → (k ∷ [] ≡ l ∷ [] → Said l ns a) → (o ≡ Some q → Said l ns q) → Said l ns q
pick l k ns a q o e here there =
    elim (cases_eq l k) [
      | inl is ↦ let same : a ≡ q = let f = cond-true (eqb l k) (Some a) o (eq-eqb l k is) in cc in subst (Said l ns) same (here (ap (λ (x : ℕ). x ∷ []) (sym is)))
      | inr ne ↦ there (sym (cond-false (eqb l k) (Some a) o (ne_eqb l k ne)) ∙ e)
    ]

said : (l : ℕ) (ns : List ℕ) (q : Request) → request l ns ≡ Some q → Said l ns q
said l [] q e =
    pick l 109 [] Plan q _ e (λ k. (k, refl)) (λ e. pick l 115 [] Step q _ e (λ k. (k, refl)) (λ e. pick l 100 [] Drop q _ e (λ k. (k, refl)) (λ e. absurd (some_none q e))))
said l (n ∷ []) q e = pick l 110 (n ∷ []) (Lines n) q _ e (λ k. (k, refl)) (λ e. pick l 114 (n ∷ []) (Run n) q _ e (λ k. (k, refl)) (λ e. absurd (some_none q e)))
said l (i ∷ j ∷ []) q e = pick l 111 (i ∷ j ∷ []) (Owed (uplink i) (downlink j)) q _ e (λ k. (k, refl)) (λ e. absurd (some_none q e))
said l (i ∷ j ∷ u ∷ []) q e =
    pick l 112 (i ∷ j ∷ u ∷ []) (Post (uplink i) (downlink j) u) q _ e (λ k. (k, refl))
    (λ e. pick l 119 (i ∷ j ∷ u ∷ []) (Withdraw (uplink i) (downlink j) u) q _ e (λ k. (k, refl)) (λ e. absurd (some_none q e)))
said l (i ∷ j ∷ c ∷ t ∷ []) q e = pick l 102 (i ∷ j ∷ c ∷ t ∷ []) (Fault (uplink i) (downlink j) c t) q _ e (λ k. (k, refl)) (λ e. absurd (some_none q e))
said l (i ∷ j ∷ c ∷ t ∷ n ∷ ns) q e = absurd (some_none q e)

-- pieces of which a request was read
sound : (w : List ℕ) (ws : List (List ℕ)) (o : Option (List ℕ)) (q : Request) → read_all ws ≡ o → requested w o ≡ Some q → (w ≡ letter q) × Write ws (numbers q)
sound [] ws o q e h = absurd (some_none q h)
sound (l ∷ []) ws None q e h = absurd (some_none q h)
sound (l ∷ []) ws (Some ns) q e h = let s = said l ns q h in (sym s.0, subst (Write ws) (sym s.1) (all_read ws ns e))
sound (l ∷ m ∷ ls) ws o q e h = absurd (some_none q h)

read_makes : (line : List ℕ) (q : Request) (ps : List (List ℕ)) → split line ≡ ps → asked ps ≡ Some q → length line ≤ longest → Makes line q
read_makes line q [] e h short = absurd (some_none q h)
read_makes line q (w ∷ ws) e h short =
    let s = sound w ws (read_all ws) q refl h in record {
      words = ws;
      laid = sym (split_joined line) ∙ ap joined e ∙ ap (λ (x : List ℕ). x ++ spaced ws) s.0;
      write = s.1;
      short = short;
    }

pub meant : (line : List ℕ) (r : Option Request) → request_of line ≡ r → Meant line r
meant line None e = λ q m. some_none q (sym e ∙ read_made line q m)
meant line (Some q) e =
    let good = cond_some (readable line) (asked (split line)) q e in
    let short = and_parts (leb (length line) longest) (shaped (split line)) good.0 in (
      read_makes line q (split line) refl good.1 (leb-true (length line) longest short.0),
      λ p m. let f = read_made line p m in cc,
    )
