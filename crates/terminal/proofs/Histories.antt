-- A script that grows by a byte, and its lines. Assumes nothing.
use Rattle.std.proofs.Common.{◌≡◌, ℕ, Bool, true, false, cond, List, [], ◌∷◌, ◌++◌, sym, refl, ap, ◌∙◌, subst}
use Rattle.std.specs.List.{AllByRecursion}
use Rattle.std.proofs.lemmas.List.{append-nil, append_assoc}
use Rattle.std.proofs.ByRecursion.{All-push}
use Rattle.std.proofs.lemmas.Bool.{ne_eqb, true≢false, false≢true}
use Rattle.line_input.specs.Kept.{is_empty}
use Rattle.line_input.specs.Lines.{Holds}
use Rattle.replies.specs.declared.Reply.{Reply}
use Rattle.script.specs.Requests.{request_of}
use Rattle.desk.specs.declared.desk.Desk.{Desk}
use Rattle.desk.specs.declared.stage.Stage.TheVariants.{Start}
use Rattle.desk.specs.Replying.{stage_of, Answers}
use Rattle.terminal.specs.declared.Terminal.{Terminal}
use Rattle.terminal.specs.Scripts.{before, lines_of, Talk, Answered}
use Rattle.terminal.specs.Input.{Closed, Grown, Unbroken, fed, Heard}

-- nothing has come
pub begun : (t : Terminal) → stage_of t.desk ≡ Start → Holds t.input [] → Heard [] [] t
begun t opened held = record {
  lines = [];
  last = [];
  laid = refl;
  apart = tt;
  unbroken = tt;
  answered = record { start = t.desk; opened = opened; talk = refl };
  held = held;
}

-- one line more is answered
talk_more : (ls : List (List ℕ)) (rs : List Reply) (d e f : Desk) (l : List ℕ) (r : Reply) → Talk d ls rs e → Answers e (request_of l) r f → Talk d (ls ++ l ∷ []) (rs ++ r ∷ []) f
talk_more [] [] d e f l r t a = let P : Desk → Type 0 = λ x. Answers x (request_of l) r f in (f, subst P (sym t) a, refl)
talk_more [] (q ∷ rs) d e f l r t a = absurd t
talk_more (k ∷ ls) [] d e f l r t a = absurd t
talk_more (k ∷ ls) (q ∷ rs) d e f l r t a = (t.0, t.1, talk_more ls rs t.0 e f l r t.2 a)

answered_more : (ls : List (List ℕ)) (rs : List Reply) (e f : Desk) (l : List ℕ) (r : Reply) → Answered ls rs e → Answers e (request_of l) r f → Answered (ls ++ l ∷ []) (rs ++ r ∷ []) f
answered_more ls rs e f l r h a = record { start = h.start; opened = h.opened; talk = talk_more ls rs h.start e f l r h.talk a }

fed_more : (ls : List (List ℕ)) (l : List ℕ) → fed (ls ++ l ∷ []) ≡ fed ls ++ (l ++ 10 ∷ [])
fed_more [] l = refl
fed_more (k ∷ ls) l = ap (λ (x : List ℕ). k ++ (10 ∷ x)) (fed_more ls l) ∙ sym (append_assoc k (10 ∷ fed ls) (l ++ 10 ∷ []))

-- a line feed came
pub line_ended : (script : List ℕ) (rs : List Reply) (b : ℕ) (t u : Terminal) (r : Reply) → b ≡ 10 → ((line : List ℕ) → Holds t.input line → Closed t line r u) → Heard script rs t → Heard (script ++ b ∷ []) (rs ++ r ∷ []) u
line_ended script rs b t u r e f h =
    let closed = f h.last h.held in record {
      lines = h.lines ++ h.last ∷ [];
      last = [];
      laid =
          ap (λ (c : ℕ). script ++ c ∷ []) e
          ∙ ap (λ (s : List ℕ). s ++ 10 ∷ []) h.laid
          ∙ append_assoc (fed h.lines) h.last (10 ∷ [])
          ∙ sym (fed_more h.lines h.last)
          ∙ sym (append-nil (fed (h.lines ++ h.last ∷ [])));
      apart = All-push Unbroken h.lines h.last h.apart h.unbroken;
      unbroken = tt;
      answered = answered_more h.lines rs t.desk u.desk h.last r h.answered closed.reply;
      held = closed.next;
    }

-- another byte came
pub line_grown : (script : List ℕ) (rs : List Reply) (b : ℕ) (t u : Terminal) → (b ≡ 10 → ⊥) → ((line : List ℕ) → Holds t.input line → Grown t (line ++ b ∷ []) u) → Heard script rs t → Heard (script ++ b ∷ []) rs u
line_grown script rs b t u ne f h =
    let grown = f h.last h.held in record {
      lines = h.lines;
      last = h.last ++ b ∷ [];
      laid = ap (λ (s : List ℕ). s ++ b ∷ []) h.laid ∙ append_assoc (fed h.lines) h.last (b ∷ []);
      apart = h.apart;
      unbroken = All-push (λ c. c ≡ 10 → ⊥) h.last b h.unbroken ne;
      answered = subst (Answered h.lines rs) (sym grown.same) h.answered;
      held = grown.next;
    }

-- the line at the end, if there is one
abbrev rest : List ℕ → List (List ℕ)
rest [] = []
rest (b ∷ bs) = (b ∷ bs) ∷ []

before_rest : (b : ℕ) (bs : List ℕ) → before b (rest bs) ≡ rest (b ∷ bs)
before_rest b [] = refl
before_rest b (c ∷ bs) = refl

no_feed : (b : ℕ) (bs : List ℕ) → (b ≡ 10 → ⊥) → lines_of (b ∷ bs) ≡ before b (lines_of bs)
no_feed b bs ne = ap (λ (t : Bool). cond t ([] ∷ lines_of bs) (before b (lines_of bs))) (ne_eqb b 10 ne)

one_line : (l : List ℕ) → Unbroken l → lines_of l ≡ rest l
one_line [] h = refl
one_line (b ∷ bs) h = no_feed b bs h.0 ∙ ap (before b) (one_line bs h.1) ∙ before_rest b bs

first_line : (l bs : List ℕ) → Unbroken l → lines_of (l ++ (10 ∷ bs)) ≡ l ∷ lines_of bs
first_line [] bs h = refl
first_line (b ∷ l) bs h = no_feed b (l ++ (10 ∷ bs)) h.0 ∙ ap (before b) (first_line l bs h.1)

fed_lines : (ls : List (List ℕ)) (l : List ℕ) → AllByRecursion Unbroken ls → Unbroken l → lines_of (fed ls ++ l) ≡ ls ++ rest l
fed_lines [] l a h = one_line l h
fed_lines (k ∷ ls) l a h =
    ap lines_of (append_assoc k (10 ∷ fed ls) l)
    ∙ first_line k (fed ls ++ l) a.0
    ∙ ap (λ (x : List (List ℕ)). k ∷ x) (fed_lines ls l a.1 h)

heard_lines : (script : List ℕ) (rs : List Reply) (t : Terminal) (h : Heard script rs t) → lines_of script ≡ h.lines ++ rest h.last
heard_lines script rs t h = ap lines_of h.laid ∙ fed_lines h.lines h.last h.apart h.unbroken

rest_none : (l : List ℕ) → is_empty l ≡ true → rest l ≡ []
rest_none [] e = refl
rest_none (b ∷ l) e = absurd (false≢true e)

rest_one : (l : List ℕ) → is_empty l ≡ false → rest l ≡ l ∷ []
rest_one [] e = absurd (true≢false e)
rest_one (b ∷ l) e = refl

-- the input ends where no line has begun
pub all_answered : (script : List ℕ) (rs : List Reply) (t : Terminal) (done : Bool) → ((line : List ℕ) → Holds t.input line → done ≡ is_empty line) → done ≡ true → Heard script rs t → Answered (lines_of script) rs t.desk
all_answered script rs t done f e h =
    let same : lines_of script ≡ h.lines = heard_lines script rs t h ∙ ap (λ (x : List (List ℕ)). h.lines ++ x) (rest_none h.last (sym (f h.last h.held) ∙ e)) ∙ append-nil h.lines in
    subst (λ (ls : List (List ℕ)). Answered ls rs t.desk) (sym same) h.answered

-- the input ends within a line
pub last_answered : (script : List ℕ) (rs : List Reply) (t u : Terminal) (r : Reply) (done : Bool) → ((line : List ℕ) → Holds t.input line → done ≡ is_empty line) → done ≡ false → ((line : List ℕ) → Holds t.input line → Closed t line r u) → Heard script rs t → Answered (lines_of script) (rs ++ r ∷ []) u.desk
last_answered script rs t u r done f e g h =
    let same : lines_of script ≡ h.lines ++ h.last ∷ [] = heard_lines script rs t h ∙ ap (λ (x : List (List ℕ)). h.lines ++ x) (rest_one h.last (sym (f h.last h.held) ∙ e)) in
    subst (λ (ls : List (List ℕ)). Answered ls (rs ++ r ∷ []) u.desk) (sym same)
    (answered_more h.lines rs t.desk u.desk h.last r h.answered (g h.last h.held).reply)
