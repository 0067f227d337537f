-- A command line read word by word.
--     Read, read_none, read_next, read_all    the loop that reads the words
--     says_help, says_complaint               what is said of it
-- Assumes nothing.
use Prim.Native.Nat.{ℕ, suc, ◌+◌}
use mathlib.Core.Path.{◌≡◌, refl, sym, ◌∙◌, ap, subst}
use mathlib.Core.Bool.{Bool, true, false, cond}
use mathlib.Core.List.{List, [], ◌∷◌, ◌++◌}
use native.Mathlib.Omega.{arith}
use Rattle.std.specs.Prelude.{Result, Ok, Err}
use lib.ListN.{length, length-append}
use Rattle.text.specs.Text.{Wrote}
use Rattle.command_line.specs.declared.tools.Tool.{Tool}
use Rattle.command_line.specs.declared.line.Line.{Line}
use Rattle.command_line.specs.declared.line.Command.{Command}
use Rattle.command_line.specs.declared.line.Stop.{Stop}
use Rattle.command_line.specs.Lines.{no_words, taken, line_from, line_of, status_of}
use Rattle.command_text.specs.Complaints.{complaint_text}
use Rattle.command_text.specs.Help.{help_text}
use Rattle.desk.specs.Reports.{written}
use Rattle.desk.proofs.Pages.{page}
use Rattle.arguments.specs.Beginning.{SomeWord, SomeWords, line_text}

-- one word more
line_next : (t : Tool) (k : ℕ) (o : Line) (ws : List (List ℕ)) (w : List ℕ) (j : ℕ) → j ≡ k + length ws → line_from t k o (ws ++ (w ∷ [])) ≡ taken t (line_from t k o ws) j w
unfolding line_from
line_next t k o [] w j e = ap (λ (i : ℕ). taken t o i w) (let z : k ≡ j = omega arith in z)
line_next t k o (v ∷ ws) w j e = line_next t (suc k) (taken t o k v) ws w j (omega arith)

-- the line before word k
pub record Read (tool : Tool) (line : Line) (k : ℕ) : Type 0 where
  pub words : List (List ℕ)
  pub comes : line ≡ line_of tool words
  pub next : k ≡ 1 + length words

module _ {tool : Tool} {line : Line} where
  pub read_none : line ≡ no_words → Read tool line 1
  unfolding line_from
  read_none e = record { words = []; comes = e; next = refl }

  pub read_next : {k : ℕ} {r : Line} → Read tool line k → SomeWord tool line k r → Read tool r (k + 1)
  read_next {k} R W = record {
    words = R.words ++ (W.word ∷ []);
    comes = W.takes ∙ ap (λ (o : Line). taken tool o k W.word) R.comes ∙ sym (line_next tool 1 no_words R.words W.word k R.next);
    next = let n = length-append R.words (W.word ∷ []) in let e = R.next in omega arith;
  }

  pub read_all : {k : ℕ} → Read tool line k → SomeWords tool line
  read_all R = record { words = R.words; comes = R.comes }

module _ (tool : Tool) (line : Line) (word : List ℕ) {slice after : List ℕ} {n : ℕ} where
  pub says_help : line.help ≡ true → Wrote slice 0 after n (help_text tool)
      → record { text = after; report = Ok n } ≡ written slice (line_text tool line word) line.help
  unfolding line_text
  says_help e W = rw e (page true W)

  pub says_complaint : {s : Result Command Stop} → line.help ≡ false → s ≡ status_of line → Wrote slice 0 after n (complaint_text tool s line.mode_wanted word)
      → record { text = after; report = Err n } ≡ written slice (line_text tool line word) line.help
  unfolding line_text
  says_complaint e q W =
      page false (subst (λ (x : Result Command Stop). Wrote slice 0 after n (complaint_text tool x line.mode_wanted word)) q W)
      ∙ ap (λ (b : Bool). written slice (cond b (help_text tool) (complaint_text tool (status_of line) line.mode_wanted word)) b) (sym e)
