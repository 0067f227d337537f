-- What is said of a command line that cannot be taken is one line, whatever bytes its words hold.
-- Assumes nothing.
use Prim.Native.Nat.{ℕ}
use mathlib.Core.Path.{◌≡◌, refl}
use mathlib.Core.Bool.{Bool, true}
use mathlib.Core.List.{List, ◌++◌}
use lib.Dec.{eqb, ltb}
use lib.ListN.{length}
use Rattle.std.specs.Prelude.{Err}
use Rattle.text.specs.Text.{ascii, shown, unbroken, one_line}
use Rattle.text.proofs.Lines.{unbroken_more, either_unbroken, name_unbroken, number_unbroken, line_behind}
use Rattle.command_line.specs.declared.tools.Tool.{Tool}
use Rattle.command_line.specs.declared.tools.Tool.TheVariants.{Outline, TillImport, YearAudit}
use Rattle.command_line.specs.declared.line.Stop.TheVariants.{Fault, ModeWanted, FilesWanted}
use Rattle.command_line.specs.Words.{begins_as_option}
use Rattle.command_text.specs.Complaints.{misplaced_text, reason_text, fault_text, files_text, name_text, begin_text, end_text, complaint_text}

tool_unbroken : (t : Tool) → unbroken (name_text t) ≡ true
unfolding name_text unbroken
tool_unbroken Outline = refl
tool_unbroken TillImport = refl
tool_unbroken YearAudit = refl

begin_unbroken : (t : Tool) → unbroken (begin_text t) ≡ true
unfolding unbroken
begin_unbroken t = unbroken_more (name_text t) (ascii ": ") (tool_unbroken t) refl

end_line : (t : Tool) → one_line (end_text t) ≡ true
unfolding unbroken one_line
end_line t = line_behind (name_text t) _ (tool_unbroken t) refl

misplaced_unbroken : (mode_wanted : Bool) (s : List ℕ) → unbroken (misplaced_text mode_wanted s) ≡ true
unfolding misplaced_text unbroken
misplaced_unbroken mode_wanted s =
    either_unbroken mode_wanted _ _ refl
    (either_unbroken (begins_as_option s) _ _ (name_unbroken s _ refl) refl)

reason_unbroken : (mode_wanted : Bool) (s : List ℕ) → unbroken (reason_text mode_wanted s) ≡ true
unfolding reason_text unbroken
reason_unbroken mode_wanted s =
    either_unbroken (eqb (length s) 0) _ _ refl
    (either_unbroken (ltb 4096 (length s)) _ _ refl
    (unbroken_more (shown s ++ ascii ",") _ (name_unbroken s _ refl) (misplaced_unbroken mode_wanted s)))

fault_unbroken : (k : ℕ) (mode_wanted : Bool) (s : List ℕ) → unbroken (fault_text k mode_wanted s) ≡ true
unfolding unbroken
fault_unbroken k mode_wanted s = number_unbroken k _ (reason_unbroken mode_wanted s)

files_unbroken : (t : Tool) → unbroken (files_text t) ≡ true
unfolding files_text unbroken
files_unbroken Outline = refl
files_unbroken TillImport = refl
files_unbroken YearAudit = refl

module _ (t : Tool) (mode_wanted : Bool) (s : List ℕ) where
  pub fault_line : (k : ℕ) → one_line (complaint_text t (Err (Fault k)) mode_wanted s) ≡ true
  unfolding complaint_text
  fault_line k = line_behind (begin_text t ++ fault_text k mode_wanted s) (end_text t) (unbroken_more (begin_text t) (fault_text k mode_wanted s) (begin_unbroken t) (fault_unbroken k mode_wanted s)) (end_line t)

  pub mode_line : one_line (complaint_text t (Err ModeWanted) mode_wanted s) ≡ true
  unfolding complaint_text unbroken
  mode_line = line_behind (begin_text t ++ ascii "--mode is the last argument, and even or mixed has to follow") _ (unbroken_more (begin_text t) _ (begin_unbroken t) refl) (end_line t)

  pub files_line : one_line (complaint_text t (Err FilesWanted) mode_wanted s) ≡ true
  unfolding complaint_text
  files_line = line_behind (begin_text t ++ files_text t) (end_text t) (unbroken_more (begin_text t) (files_text t) (begin_unbroken t) (files_unbroken t)) (end_line t)
