-- The command word that a line begins with is one of the form.
use Rattle.std.proofs.Common.{◌≡◌, ℕ, Bool, true, false, List, Option, Some, None, refl, subst}
use Rattle.std.specs.Prelude.{if◌then◌else◌}
use Rattle.alb_script.specs.Asked.{of_form, word_start, word_at, word_from, command_word, word_named, belongs}
use Rattle.alb_script.specs.declared.form.Form.{Form}
use Rattle.alb_script.specs.declared.word.Word.{Word}

kept-belongs : (b : Bool) (form : Form) (v w : Word) → belongs form v ≡ b → (if b then Some v else None) ≡ Some w → belongs form w ≡ true
kept-belongs true form v w b is = let same : v ≡ w = cc in subst (λ (x : Word). belongs form x ≡ true) same b
kept-belongs false form v w b is = absurd (cc)

of_form-belongs : (form : Form) (named : Option Word) (w : Word) → of_form form named ≡ Some w → belongs form w ≡ true
of_form-belongs form None w is = absurd (cc)
of_form-belongs form (Some v) w is = kept-belongs (belongs form v) form v w refl is

word_from-belongs : (form : Form) (line : List ℕ) (start : Option ℕ) (w : Word) → word_from form line start ≡ Some w → belongs form w ≡ true
word_from-belongs form line None w is = absurd (cc)
word_from-belongs form line (Some start) w is = of_form-belongs form (word_named (word_at start line)) w is

pub command_word-belongs : (form : Form) (line : List ℕ) (w : Word) → command_word form line ≡ Some w → belongs form w ≡ true
unfolding command_word
command_word-belongs form line w is = word_from-belongs form line (word_start line) w is
